-- What the pairs of each operation make together, over differences of whole bytes.
--   whole_there q s at == the difference of the record at an offset
--   whole_region q s a == the region of the records from a on
--   tidy-stops, less-turn    where tidying stops; a stop of subtraction more
--   tidy-total        the region tidied
--   intersect-total   the intersections of two regions, tidied
--   less-total        the subtractions of a single difference from a region, tidied
use Prim.Native.Nat.{ℕ, zero, suc, ◌+◌, ◌*◌, ◌≤◌, ◌<◌}
use native.Mathlib.Omega.{arith}
use mathlib.Core.Path.{◌≡◌, refl, sym, ap, ◌∙◌}
use mathlib.Core.List.{List, [], ◌∷◌, ◌++◌, map, append-nil}
use mathlib.Core.Bool.{Bool, true, false, cond}
use borrow.Author.Tests.{eq-eqb, ne_eqb}
use lib.ListN.{length}
use Rattle.model.specs.Cube.{Cube, meet, shares}
use Rattle.model.specs.Difference.{Difference, less, Region}
use Rattle.model.specs.Tidy.{tidy, each, tidy_region}
use Rattle.model.specs.Algebra.{intersection, intersections, restored, subtraction, subtractions}
use Rattle.model.proofs.Tidying.{each_append}
use Rattle.cube.specs.Whole.{whole_at, wholes_at}
use Rattle.region.specs.Front.{front_at, whole_difference}
use Rattle.region.specs.Ahead.{ahead}
use Rattle.region.proofs.Strides.{steps-end, steps-turn}
use Rattle.algebra.specs.Stops.{stop_at, bases_at, bases_of}
use Rattle.algebra.specs.Totals.{stops, made, total}
use Rattle.algebra.specs.declared.stop.Operation.TheVariants.{Tidy, Intersect, Less}
use Rattle.algebra.proofs.Stepping.{stop-on, less-next}

abbrev pub whole_there : ℕ → List ℕ → ℕ → Difference
whole_there q s at = whole_difference q s (front_at s at)

abbrev pub whole_region : ℕ → List ℕ → ℕ → Region
whole_region q s a = map (whole_there q s) (ahead s a)

-- what is made and tidied for one after another is tidied as a whole
each-tidied : (f : ℕ → Region) (g : Difference → Region) (d : ℕ → Difference) → ((x : ℕ) → f x ≡ tidy_region (g (d x))) → (xs : List ℕ)
    → each f xs ≡ tidy_region (each g (map d xs))
each-tidied f g d e [] = refl
each-tidied f g d e (x ∷ xs) = rw (e x, each-tidied f g d e xs) (sym (each_append tidy (g (d x)) (each g (map d xs))))

each-one : (r : Region) → each (λ d. d ∷ []) r ≡ r
each-one [] = refl
each-one (d ∷ r) = ap (λ (z : Region). d ∷ z) (each-one r)

-- a piece, or none
piece-or : (b : Bool) (c : Cube) (cuts : List Cube)
    → tidy_region (map (λ x. less x cuts) (cond b (c ∷ []) [])) ≡ tidy_region (cond b (less c cuts ∷ []) [])
piece-or true c cuts = refl
piece-or false c cuts = refl

back-append : (b : Bool) (d : Difference) (r : Region) → tidy_region (cond b (d ∷ []) []) ++ tidy_region r ≡ tidy_region (cond b (d ∷ r) r)
back-append true d r = rw (append-nil (tidy d))
back-append false d r = refl

module _ (q : ℕ) (s t : List ℕ) where
  -- tidying
  tidy-made : (d : Difference) (x : ℕ) → made Tidy q t d x ≡ tidy d
  unfolding made stop_at bases_of bases_at wholes_at
  tidy-made d x = simp append-nil refl

  pub tidy-stops : 0 < length t → stops Tidy q t 0 ≡ 0 ∷ []
  unfolding stop_at
  tidy-stops h =
      steps-turn (λ y. length t) (length t) (λ y l. l) 0 h ∙ ap (λ (xs : List ℕ). 0 ∷ xs) (steps-end (λ y. length t) (length t) (length t) (omega arith))

  pub tidy-total : (a : ℕ) → 0 < length t → total Tidy q s a t 0 ≡ tidy_region (whole_region q s a)
  unfolding total
  tidy-total a h =
      rw (tidy-stops h)
      (each-tidied (λ b. made Tidy q t (whole_there q s b) 0 ++ []) (λ d. d ∷ []) (whole_there q s)
      (λ b. ap (λ (r : Region). r ++ []) (tidy-made (whole_there q s b) 0)) (ahead s a))
      ∙ ap tidy_region (each-one (whole_region q s a))

  -- intersection
  intersect-made : (d : Difference) (x : ℕ) → made Intersect q t d x ≡ tidy_region (intersection d (whole_there q t x))
  unfolding made stop_at bases_of bases_at intersection
  intersect-made d x = let b = whole_there q t x in piece-or (shares d.base b.base) (meet d.base b.base) (d.cuts ++ b.cuts)

  pub intersect-total : (a x : ℕ) → total Intersect q s a t x ≡ tidy_region (intersections (whole_region q s a) (whole_region q t x))
  unfolding total stop_at
  intersect-total a x =
      each-tidied (λ b. each (made Intersect q t (whole_there q s b)) (ahead t x)) (λ d. each (intersection d) (whole_region q t x)) (whole_there q s)
      (λ b. each-tidied (made Intersect q t (whole_there q s b)) (intersection (whole_there q s b)) (whole_there q t)
      (intersect-made (whole_there q s b)) (ahead t x))
      (ahead s a)

  -- subtraction of a record whose base starts at b
  module _ (b : ℕ) (some : 1 ≤ q) where
    less-base : (d : Difference) → made (Less b) q t d b ≡ tidy (less d.base (d.cuts ++ (whole_at q t b ∷ [])))
    unfolding made stop_at bases_of bases_at wholes_at
    less-base d = rw (eq-eqb b b refl) (append-nil _)

    less-cut : (d : Difference) (x : ℕ) → b < x
        → made (Less b) q t d x ≡ tidy_region (cond (shares d.base (whole_at q t x)) (less (meet d.base (whole_at q t x)) d.cuts ∷ []) [])
    unfolding made stop_at bases_of bases_at wholes_at
    less-cut d x h = rw (ne_eqb x b (omega arith), append-nil d.cuts) (piece-or (shares d.base (whole_at q t x)) (meet d.base (whole_at q t x)) d.cuts)

    pub less-turn : (x : ℕ) → x < length t → stops (Less b) q t x ≡ x ∷ stops (Less b) q t (x + q)
    less-turn x h =
        steps-turn (λ y. (stop_at (Less b) q t y).next) (length t) (stop-on (Less b) q t some) x h
        ∙ ap (λ (y : ℕ). x ∷ stops (Less b) q t y) (less-next b q t x)

    less-rest : (d : Difference) (n x : ℕ) → b < x → x + n * q ≡ length t
        → each (made (Less b) q t d) (stops (Less b) q t x) ≡ tidy_region (restored d (wholes_at q t x n))
    unfolding restored wholes_at
    less-rest d zero x h e = rw (steps-end (λ y. (stop_at (Less b) q t y).next) (length t) x (omega arith))
    less-rest d (suc n) x h e =
        rw (less-turn x (omega arith), less-cut d x h, less-rest d n (x + q) (omega arith) (omega arith))
        (back-append (shares d.base (whole_at q t x)) _ (restored d (wholes_at q t (x + q) n)))

    pub less-total : (a n : ℕ) → length t ≡ b + (n + 1) * q
        → total (Less b) q s a t b ≡ tidy_region (subtractions (whole_region q s a) (less (whole_at q t b) (wholes_at q t (b + q) n)))
    unfolding total
    less-total a n e =
        each-tidied (λ c. each (made (Less b) q t (whole_there q s c)) (stops (Less b) q t b))
        (λ d. subtraction d (less (whole_at q t b) (wholes_at q t (b + q) n))) (whole_there q s)
        (λ c. rw (less-turn b (omega arith), less-base (whole_there q s c), less-rest (whole_there q s c) n (b + q) (omega arith) (omega arith)))
        (ahead s a)
