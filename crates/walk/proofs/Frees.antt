-- The positions that a cube leaves free and another does not.
--   count_most                 no more positions are free than there are
--   lost-count                 they are free in the one and not in the meet
--   Opened base cut xs ys n    == of the bytes of two cubes, those before the bytes xs and ys have n such positions
--   opened-begun, opened-fits, opened-turn, opened-all    no byte is counted; one more is; all are
--   frees-lost                 of a cut that meets the base, they are those that it fixes
--   lost-mark                  with one cut more that meets the base, those that it fixes are marked too
--   lost-none                  with no cut there are none
use Prim.Native.Nat.{ℕ, zero, suc, ◌+◌, ◌-◌, ◌*◌, ◌≤◌}
use native.Mathlib.Omega.{arith}
use native.Mathlib.Nat.{zero-add}
use mathlib.Core.Path.{◌≡◌, refl, sym, ap, ap₂, ◌∙◌}
use mathlib.Core.List.{List, [], ◌∷◌, ◌++◌}
use mathlib.Core.Logic.{◌⊎◌, inl, inr}
use mathlib.Core.Bool.{Bool, true, false, not, ◌&&◌, ◌||◌, cond, or-true, and-false}
use lib.Bits.{bit_and}
use lib.ListN.{length, replicate}
use Rattle.model.specs.Cube.{Code, none, v0, v1, free, Cube, meet_code, meet, coded, shares}
use Rattle.model.specs.Walk.{opens}
use Rattle.model.specs.Ceiling.{frees, mark, unmarked, marks}
use Rattle.model.proofs.Bools.{and_left, and_right}
use Rattle.format.specs.Limits.{widest, widest_cube}
use Rattle.format.specs.Bytes.{codes, is_free}
use Rattle.cube.specs.Count.{free_count}
use Rattle.cube.specs.Whole.{cube_of}
use Rattle.cube.proofs.Codes.{codes-and}
use Rattle.walk.specs.Tally.{lost}

pub count_most : (a : Cube) → free_count a ≤ length a
count_most [] = omega arith
count_most (none ∷ a) = let e = count_most a in omega arith
count_most (v0 ∷ a) = let e = count_most a in omega arith
count_most (v1 ∷ a) = let e = count_most a in omega arith
count_most (free ∷ a) = let e = count_most a in omega arith

abbrev one : Code → ℕ
one none = 0
one v0 = 0
one v1 = 0
one free = 1

count-cons : (x : Code) (c : Cube) → free_count (x ∷ c) ≡ one x + free_count c
count-cons none c = omega arith
count-cons v0 c = omega arith
count-cons v1 c = omega arith
count-cons free c = omega arith

-- at each position, and over all of them
lost-one : (x y : Code) → cond (is_free x && not (is_free y)) 1 0 + one (meet_code x y) ≡ one x
lost-one none y = refl
lost-one v0 none = refl
lost-one v0 v0 = refl
lost-one v0 v1 = refl
lost-one v0 free = refl
lost-one v1 none = refl
lost-one v1 v0 = refl
lost-one v1 v1 = refl
lost-one v1 free = refl
lost-one free none = refl
lost-one free v0 = refl
lost-one free v1 = refl
lost-one free free = refl

marks-first : (m : Bool) (ms : List Bool) → marks (m ∷ ms) ≡ cond m 1 0 + marks ms
unfolding marks
marks-first true ms = omega arith
marks-first false ms = omega arith

pub lost-count : (b u : Cube) → length b ≡ length u → marks (lost b u) + free_count (meet b u) ≡ free_count b
unfolding lost marks
lost-count [] [] e = refl
lost-count [] (y ∷ u) e = absurd (omega arith)
lost-count (x ∷ b) [] e = absurd (omega arith)
lost-count (x ∷ b) (y ∷ u) e =
    let h = lost-one x y in
    let t = lost-count b u (omega arith) in
    rw (marks-first (is_free x && not (is_free y)) (lost b u), count-cons (meet_code x y) (meet b u), count-cons x b) (omega arith)

marks-append : (a b : List Bool) → marks (a ++ b) ≡ marks a + marks b
unfolding marks
marks-append [] b = omega arith
marks-append (m ∷ a) b = let e = marks-append a b in rw (marks-first m (a ++ b), marks-first m a) (omega arith)

-- byte by byte
lost-byte : (x y : ℕ) → marks (lost (codes (x ∷ [])) (codes (y ∷ []))) + free_count (codes (bit_and x y ∷ [])) ≡ free_count (codes (x ∷ []))
lost-byte x y = rw (codes-and (x ∷ []) (y ∷ []) refl) (lost-count (codes (x ∷ [])) (codes (y ∷ [])) refl)

lost-next : (x y : ℕ) (a b : List ℕ)
    → marks (lost (codes (x ∷ a)) (codes (y ∷ b))) ≡ marks (lost (codes (x ∷ [])) (codes (y ∷ []))) + marks (lost (codes a) (codes b))
unfolding lost
lost-next x y a b = marks-append (lost (codes (x ∷ [])) (codes (y ∷ []))) (lost (codes a) (codes b))

-- n positions are counted, and the bytes xs and ys are left to count
pub record Opened (base cut xs ys : List ℕ) (n : ℕ) : Type 0 where
  pub long : length xs ≡ length ys
  pub most : n + 4 * length xs ≤ widest
  pub sum : n + marks (lost (codes xs) (codes ys)) ≡ marks (lost (codes base) (codes cut))

pub opened-begun : (base cut : List ℕ) → length base ≡ length cut → length base ≤ widest_cube → Opened base cut base cut 0
opened-begun base cut l h = record { long = l; most = omega arith; sum = zero-add (marks (lost (codes base) (codes cut))) }

module _ {base cut xs ys : List ℕ} {n : ℕ} (h : Opened base cut xs ys n) where
  -- f and g places of the bytes x and of x & y are free
  module _ (x y f g : ℕ) (a b : List ℕ) (first : xs ≡ x ∷ a) (second : ys ≡ y ∷ b) (e : f ≡ free_count (codes (x ∷ [])))
      (k : g ≡ free_count (codes (bit_and x y ∷ []))) where
    pub opened-fits : (g ≤ f) × (n + (f - g) ≤ widest)
    opened-fits = (omega (arith, lost-byte x y), omega (arith, h.most, ap length first, count_most (codes (x ∷ []))))

    pub opened-turn : Opened base cut a b (n + (f - g))
    opened-turn =
        record {
          long = omega (arith, h.long, ap length first, ap length second);
          most = omega (arith, h.most, ap length first, count_most (codes (x ∷ [])));
          sum =
              let s : n + marks (lost (codes (x ∷ a)) (codes (y ∷ b))) ≡ marks (lost (codes base) (codes cut)) = rw (first, second) at h.sum in
              omega (arith, s, lost-next x y a b, lost-byte x y, opened-fits.0);
        }

  no-byte : xs ≡ [] → (n ≡ marks (lost (codes base) (codes cut))) × (n ≤ widest)
  unfolding lost marks
  no-byte e = let s = rw e at h.sum in (omega (arith, s), omega (arith, h.most))

  pub opened-all : (xs ≡ []) ⊎ (ys ≡ []) → (n ≡ marks (lost (codes base) (codes cut))) × (n ≤ widest)
  opened-all (inl e) = no-byte e
  opened-all (inr e) = no-byte (empty xs (h.long ∙ ap length e))
    where
      empty : (xs : List ℕ) → length xs ≡ 0 → xs ≡ []
      empty [] l = refl
      empty (x ∷ xs) l = absurd (omega arith)

-- of a cut that meets the base, the positions that the base leaves free and the cut does not are those that it fixes
opens-lost : (x y : Code) → coded (meet_code x y) ≡ true → (is_free x && not (is_free y)) ≡ opens x y
opens-lost none y e = refl
opens-lost v0 y e = refl
opens-lost v1 y e = refl
opens-lost free none e = cc
opens-lost free v0 e = refl
opens-lost free v1 e = refl
opens-lost free free e = refl

pub frees-lost : (b c : Cube) → shares b c ≡ true → marks (lost b c) ≡ frees b c
unfolding lost marks frees
frees-lost [] c e = refl
frees-lost (x ∷ b) [] e = cc
frees-lost (x ∷ b) (y ∷ c) e =
    rw (opens-lost x y (and_left (coded (meet_code x y)) (shares b c) e), frees-lost b c (and_right (coded (meet_code x y)) (shares b c) e)) (go (opens x y))
  where
    go : (g : Bool) → cond g (suc (frees b c)) (frees b c) ≡ cond g 1 0 + frees b c
    go true = omega arith
    go false = omega arith

-- the AND with one cut more marks what that cut fixes
lost-more : (x y z : Code) → coded (meet_code x z) ≡ true
    → (is_free x && not (is_free (meet_code y z))) ≡ (opens x z || (is_free x && not (is_free y)))
lost-more none y z e = refl
lost-more v0 y z e = refl
lost-more v1 y z e = refl
lost-more free none z e = sym (or-true (opens free z))
lost-more free v0 none e = refl
lost-more free v0 v0 e = refl
lost-more free v0 v1 e = refl
lost-more free v0 free e = refl
lost-more free v1 none e = refl
lost-more free v1 v0 e = refl
lost-more free v1 v1 e = refl
lost-more free v1 free e = refl
lost-more free free none e = cc
lost-more free free v0 e = refl
lost-more free free v1 e = refl
lost-more free free free e = refl

pub lost-mark : (b u c : Cube) → length b ≡ length u → shares b c ≡ true → lost b (meet u c) ≡ mark b c (lost b u)
unfolding lost mark
lost-mark [] u c l e = refl
lost-mark (x ∷ b) u [] l e = cc
lost-mark (x ∷ b) [] (z ∷ c) l e = absurd (omega arith)
lost-mark (x ∷ b) (y ∷ u) (z ∷ c) l e =
    ap₂ (λ (m : Bool) (ms : List Bool). m ∷ ms)
    (lost-more x y z (and_left (coded (meet_code x z)) (shares b c) e))
    (lost-mark b u c (omega arith) (and_right (coded (meet_code x z)) (shares b c) e))

-- a cube that is all free loses nothing
pub lost-none : (n : ℕ) (b : List ℕ) → length b ≤ n → lost (codes b) (cube_of (length b) (replicate n 255)) ≡ unmarked (codes b)
unfolding lost cube_of
lost-none n [] h = refl
lost-none zero (x ∷ b) h = absurd (omega arith)
lost-none (suc n) (x ∷ b) h = simp (and-false, lost-none n b (omega arith))
