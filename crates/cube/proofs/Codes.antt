-- The codes of bytes: as many to each byte, one byte after the other, and `&` on bytes is the meet of the codes.
--   codes-append, codes-drop    the codes of bytes behind bytes, and without the first q bytes
--   solid-append, free-append   two cubes in a row have no `none`, or are all free, exactly when each is
--   below4                      a number below 4 is one of four
--   four-and, codes-and, length-and    the AND of two codes, of bytes: it is the meet, and as long
--   shares-byte, within-byte    sharing a header and lying within: the first bytes decide with the others
--   shares-apart, shares-self   cubes of different lengths share none; a cube does with itself if it has no `none`
use mathlib.Core.Path.{◌≡◌, refl, sym, ap, ap₂, ◌∙◌}
use mathlib.Core.List.{List, [], ◌∷◌, ◌++◌}
use mathlib.Core.Bool.{Bool, true, false, ◌&&◌, and_assoc, and-false, true≢false}
use Prim.Native.Nat.{ℕ, zero, suc, ◌*◌, ◌/◌, ◌%◌, ◌^◌, ◌<◌}
use native.Mathlib.Nat.{mod-lt}
use native.Mathlib.Omega.{arith}
use lib.Bits.{bit_and, and_shr, and_mod, and_le_l}
use lib.Dec.{lit<, eqb}
use lib.ListN.{length, drop}
use borrow.Author.Tests.{eq-eqb, ne_eqb}
use Rattle.model.specs.Cube.{Code, none, v0, v1, free, Cube, meet_code, meet, coded, solid, shares, same, within}
use Rattle.model.proofs.Cubes.{same-is, same_self}
use Rattle.format.specs.Bytes.{code_of, codes, quad, is_free, all_free}
use Rattle.cube.specs.Pair.{and_bytes}
use Rattle.cube.proofs.Octets.{quad-codes}

pub codes-append : (a b : List ℕ) → codes (a ++ b) ≡ codes a ++ codes b
codes-append [] b = refl
codes-append (x ∷ a) b =
    ap (λ (c : Cube). code_of (x / 64 % 4) ∷ code_of (x / 16 % 4) ∷ code_of (x / 4 % 4) ∷ code_of (x % 4) ∷ c) (codes-append a b)

pub codes-drop : (q : ℕ) (bs : List ℕ) → codes (drop q bs) ≡ drop (4 * q) (codes bs)
codes-drop zero bs = refl
codes-drop (suc q) [] = let e : 4 * suc q ≡ suc (suc (suc (suc (4 * q)))) = omega arith in rw e
codes-drop (suc q) (b ∷ bs) = let e : 4 * suc q ≡ suc (suc (suc (suc (4 * q)))) = omega arith in rw (e, codes-drop q bs)

pub solid-append : (a b : Cube) → solid (a ++ b) ≡ solid a && solid b
solid-append [] b = refl
solid-append (x ∷ a) b = ap (λ (t : Bool). coded x && t) (solid-append a b) ∙ sym (and_assoc (coded x) (solid a) (solid b))

pub free-append : (a b : Cube) → all_free (a ++ b) ≡ all_free a && all_free b
free-append [] b = refl
free-append (x ∷ a) b = ap (λ (t : Bool). is_free x && t) (free-append a b) ∙ sym (and_assoc (is_free x) (all_free a) (all_free b))

pub below4 : (P : ℕ → Type 0) → P 0 → P 1 → P 2 → P 3 → (n : ℕ) → n < 4 → P n
below4 P p0 p1 p2 p3 zero h = p0
below4 P p0 p1 p2 p3 (suc zero) h = p1
below4 P p0 p1 p2 p3 (suc (suc zero)) h = p2
below4 P p0 p1 p2 p3 (suc (suc (suc zero))) h = p3
below4 P p0 p1 p2 p3 (suc (suc (suc (suc n)))) h = absurd (omega arith)

-- the meet
pub four-and : (m n : ℕ) → m < 4 → n < 4 → code_of (bit_and m n) ≡ meet_code (code_of m) (code_of n)
four-and m n hm hn =
    below4 (λ (k : ℕ). code_of (bit_and k n) ≡ meet_code (code_of k) (code_of n))
    (below4 (λ (k : ℕ). code_of (bit_and 0 k) ≡ meet_code none (code_of k)) refl refl refl refl n hn)
    (below4 (λ (k : ℕ). code_of (bit_and 1 k) ≡ meet_code v0 (code_of k)) refl refl refl refl n hn)
    (below4 (λ (k : ℕ). code_of (bit_and 2 k) ≡ meet_code v1 (code_of k)) refl refl refl refl n hn)
    (below4 (λ (k : ℕ). code_of (bit_and 3 k) ≡ meet_code free (code_of k)) refl refl refl refl n hn)
    m hm

-- the code at the place of weight 2 ^ k
code-and : (k a b : ℕ) → code_of (bit_and a b / 2 ^ k % 4) ≡ meet_code (code_of (a / 2 ^ k % 4)) (code_of (b / 2 ^ k % 4))
code-and k a b =
    ap (λ (x : ℕ). code_of (x % 4)) (and_shr a b k)
    ∙ ap code_of (and_mod (a / 2 ^ k) (b / 2 ^ k) 2)
    ∙ four-and (a / 2 ^ k % 4) (b / 2 ^ k % 4) (mod-lt (a / 2 ^ k) (lit< tt)) (mod-lt (b / 2 ^ k) (lit< tt))

-- the last place, where nothing is shifted
code-and-last : (a b : ℕ) → code_of (bit_and a b % 4) ≡ meet_code (code_of (a % 4)) (code_of (b % 4))
code-and-last a b = ap code_of (and_mod a b 2) ∙ four-and (a % 4) (b % 4) (mod-lt a (lit< tt)) (mod-lt b (lit< tt))

pub codes-and : (a b : List ℕ) → length a ≡ length b → codes (and_bytes a b) ≡ meet (codes a) (codes b)
codes-and [] [] l = refl
codes-and [] (y ∷ b) l = absurd (omega arith)
codes-and (x ∷ a) [] l = absurd (omega arith)
codes-and (x ∷ a) (y ∷ b) l = simp (code-and 6 x y, code-and 4 x y, code-and 2 x y, code-and-last x y, codes-and a b (omega arith))

pub length-and : (a b : List ℕ) → length a ≡ length b → length (and_bytes a b) ≡ length a
length-and [] b l = refl
length-and (x ∷ a) [] l = absurd (omega arith)
length-and (x ∷ a) (y ∷ b) l = ap suc (length-and a b (omega arith))

pub shares-byte : (x y : ℕ) (a b : List ℕ) → shares (codes (x ∷ a)) (codes (y ∷ b)) ≡ solid (codes (bit_and x y ∷ [])) && shares (codes a) (codes b)
shares-byte x y a b = simp (code-and 6 x y, code-and 4 x y, code-and 2 x y, code-and-last x y, and_assoc)

pub shares-apart : (a b : Cube) → (length a ≡ length b → ⊥) → shares a b ≡ false
shares-apart [] [] n = absurd (n refl)
shares-apart [] (y ∷ b) n = refl
shares-apart (x ∷ a) [] n = refl
shares-apart (x ∷ a) (y ∷ b) n =
    ap (λ (t : Bool). coded (meet_code x y) && t) (shares-apart a b (λ e. n (ap suc e))) ∙ and-false (coded (meet_code x y))

code-self : (x : Code) → meet_code x x ≡ x
code-self none = refl
code-self v0 = refl
code-self v1 = refl
code-self free = refl

pub shares-self : (c : Cube) → shares c c ≡ solid c
shares-self [] = refl
shares-self (x ∷ c) = ap₂ (λ (s t : Bool). s && t) (ap coded (code-self x)) (shares-self c)

-- lying within
-- two bytes have the same codes exactly when they are equal
same_byte : (z x : ℕ) → z < 256 → x < 256 → same (codes (z ∷ [])) (codes (x ∷ [])) ≡ eqb z x
same_byte z x hz hx = go (same (codes (z ∷ [])) (codes (x ∷ []))) refl
  where
    go : (t : Bool) → same (codes (z ∷ [])) (codes (x ∷ [])) ≡ t → t ≡ eqb z x
    go true e = sym (eq-eqb z x (sym (quad-codes z hz) ∙ ap quad (same-is (codes (z ∷ [])) (codes (x ∷ [])) e) ∙ quad-codes x hx))
    go false e = sym (ne_eqb z x (λ q. true≢false (sym (same_self (codes (x ∷ []))) ∙ ap (λ (k : ℕ). same (codes (k ∷ [])) (codes (x ∷ []))) (sym q) ∙ e)))

pub within-byte : (x y : ℕ) (a b : List ℕ) → x < 256
    → within (codes (x ∷ a)) (codes (y ∷ b)) ≡ eqb (bit_and x y) x && within (codes a) (codes b)
within-byte x y a b h =
    let z : bit_and x y < 256 = omega (arith, and_le_l x y) in
    rw (← same_byte (bit_and x y) x z h) (simp (code-and 6 x y, code-and 4 x y, code-and 2 x y, code-and-last x y, and_assoc))
