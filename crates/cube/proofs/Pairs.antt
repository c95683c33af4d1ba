-- Two cubes as bytes: lying in each other, and the meet written over the front of a buffer.
--   lies_within, lies-apart    `lies_in` asks for one length and for `within`
--   into-turn, into-all        the loop that writes a meet: one byte more, and its end
--   into-over                  a meet that fits is written over the front of the buffer, and the rest is kept
use mathlib.Core.Path.{◌≡◌, refl, ap}
use mathlib.Core.List.{List, [], ◌∷◌}
use mathlib.Core.Bool.{false}
use Prim.Native.Nat.{ℕ, zero, suc, ◌+◌, ◌≤◌, ◌<◌, min}
use native.Mathlib.Nat.{le_of_suc-le-suc, not-suc-le-zero}
use native.Mathlib.Numerals.{add-one}
use native.Mathlib.Omega.{arith}
use lib.Bits.{bit_and}
use lib.ListN.{length, get_or, take, set}
use borrow.Author.Tests.{eq-eqb, ne_eqb}
use Rattle.model.specs.Cube.{within}
use Rattle.format.specs.Bytes.{codes}
use Rattle.format.specs.Told.{over}
use Rattle.cube.specs.Pair.{lies_in, and_bytes, and_into}

pub lies_within : (a b : List ℕ) → length a ≡ length b → within (codes a) (codes b) ≡ lies_in a b
unfolding lies_in
lies_within a b l = rw (eq-eqb (length a) (length b) l)

pub lies-apart : (a b : List ℕ) → (length a ≡ length b → ⊥) → false ≡ lies_in a b
unfolding lies_in
lies-apart a b n = rw (ne_eqb (length a) (length b) n)

-- the meet written
pub into-over : (a b out : List ℕ) → length a ≡ length b → length a ≤ length out → and_into a b out ≡ over out (and_bytes a b)
into-over [] b out l h = refl
into-over (x ∷ a) [] out l h = absurd (omega arith)
into-over (x ∷ a) (y ∷ b) [] l h = absurd (omega arith)
into-over (x ∷ a) (y ∷ b) (z ∷ out) l h = ap (λ (r : List ℕ). bit_and x y ∷ r) (into-over a b out (omega arith) (le_of_suc-le-suc h))

store : (a b out : List ℕ) (i : ℕ) → i < length a → i < length b → i < length out
    → set (and_into (take i a) (take i b) out) i (bit_and (get_or a i 0) (get_or b i 0)) ≡ and_into (take (suc i) a) (take (suc i) b) out
store [] b out i h k l = absurd (not-suc-le-zero h)
store (x ∷ a) [] out i h k l = absurd (not-suc-le-zero k)
store (x ∷ a) (y ∷ b) [] i h k l = absurd (not-suc-le-zero l)
store (x ∷ a) (y ∷ b) (z ∷ out) zero h k l = refl
store (x ∷ a) (y ∷ b) (z ∷ out) (suc i) h k l =
    ap (λ (r : List ℕ). bit_and x y ∷ r) (store a b out i (le_of_suc-le-suc h) (le_of_suc-le-suc k) (le_of_suc-le-suc l))

pub into-turn : (a b old out : List ℕ) (i : ℕ) → i < length a → i < length b → i < length old → out ≡ and_into (take i a) (take i b) old
    → set out i (bit_and (get_or a i 0) (get_or b i 0)) ≡ and_into (take (i + 1) a) (take (i + 1) b) old
into-turn a b old out i h k l e = rw (add-one, e, store a b old i h k l)

pub into-all : (a b out : List ℕ) (i : ℕ) → min (min (length a) (length b)) (length out) ≤ i → and_into (take i a) (take i b) out ≡ and_into a b out
into-all [] b out zero h = refl
into-all [] b out (suc i) h = refl
into-all (x ∷ a) [] out zero h = refl
into-all (x ∷ a) [] out (suc i) h = refl
into-all (x ∷ a) (y ∷ b) [] zero h = refl
into-all (x ∷ a) (y ∷ b) [] (suc i) h = refl
into-all (x ∷ a) (y ∷ b) (z ∷ out) zero h = absurd (omega arith)
into-all (x ∷ a) (y ∷ b) (z ∷ out) (suc i) h = ap (λ (r : List ℕ). bit_and x y ∷ r) (into-all a b out i (omega arith))
