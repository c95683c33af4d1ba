-- Going over the records and the stops.
--   less-next, less-room       the stops of subtraction: the next one, and that a cube that stands has room
--   stop-on                    the next stop is further on
--   fronts-end, fronts-turn, stops-end, stops-turn    no record and no stop is left; the first of them, and the others
--   fewer                      after the first there are fewer
--   each-map, all-map          what is made of what a function gives, and what holds of it
use Prim.Native.Nat.{ℕ, ◌+◌, ◌≤◌, ◌<◌}
use native.Mathlib.Omega.{arith}
use mathlib.Core.Path.{◌≡◌, refl, ap}
use mathlib.Core.List.{List, [], ◌∷◌, ◌++◌, map}
use mathlib.Core.Bool.{Bool, true, false, cond}
use lib.Dec.{eqb}
use lib.ListN.{length}
use Rattle.model.specs.Difference.{Region}
use Rattle.model.specs.Sized.{All}
use Rattle.model.specs.Tidy.{each}
use Rattle.region.specs.declared.front.Front.{Front}
use Rattle.region.specs.Front.{front_at}
use Rattle.region.specs.Ahead.{ahead}
use Rattle.region.proofs.Strides.{steps-end, steps-turn}
use Rattle.region.proofs.Onward.{ahead-end, ahead-next}
use Rattle.algebra.specs.Stops.{stop_at, base_stop, cut_stop, Room}
use Rattle.algebra.specs.Totals.{stops}
use Rattle.algebra.specs.declared.stop.Stop.{Stop}
use Rattle.algebra.specs.declared.stop.Operation.{Operation}
use Rattle.algebra.specs.declared.stop.Operation.TheVariants.{Tidy, Intersect, Less}

-- the stops of subtraction
module _ (b q : ℕ) (t : List ℕ) (x : ℕ) where
  less-stop : (P : Stop → Type 0) → P (base_stop q x) → P (cut_stop q x) → P (stop_at (Less b) q t x)
  unfolding stop_at
  less-stop P f g = go (eqb x b)
    where
      go : (c : Bool) → P (cond c (base_stop q x) (cut_stop q x))
      go true = f
      go false = g

  pub less-next : (stop_at (Less b) q t x).next ≡ x + q
  less-next = less-stop (λ p. p.next ≡ x + q) refl refl

  pub less-room : x + q ≤ length t → Room q t (stop_at (Less b) q t x)
  less-room h =
      less-stop (Room q t) (record { cube = λ y e. cc; cuts = omega arith; few = omega arith })
      (record { cube = λ y e. let same : x ≡ y = cc in omega arith; cuts = omega arith; few = omega arith })

pub stop-on : (o : Operation) (q : ℕ) (t : List ℕ) → 1 ≤ q → (x : ℕ) → x < length t → x < (stop_at o q t x).next
unfolding stop_at
stop-on Tidy q t h x l = l
stop-on Intersect q t h x l = omega arith
stop-on (Less b) q t h x l = rw (less-next b q t x) (omega arith)

module _ (s : List ℕ) (at : ℕ) where
  pub fronts-end : length s ≤ at → map (front_at s) (ahead s at) ≡ []
  fronts-end h = ap (map (front_at s)) (ahead-end s at h)

  pub fronts-turn : at < length s → (f : Front) → f ≡ front_at s at → map (front_at s) (ahead s at) ≡ f ∷ map (front_at s) (ahead s f.next)
  fronts-turn h f e = rw e (ap (map (front_at s)) (ahead-next s at h))

module _ (o : Operation) (q : ℕ) (t : List ℕ) (x : ℕ) where
  pub stops-end : length t ≤ x → map (stop_at o q t) (stops o q t x) ≡ []
  stops-end h = ap (map (stop_at o q t)) (steps-end (λ y. (stop_at o q t y).next) (length t) x h)

  pub stops-turn : 1 ≤ q → x < length t → (p : Stop) → p ≡ stop_at o q t x
      → map (stop_at o q t) (stops o q t x) ≡ p ∷ map (stop_at o q t) (stops o q t p.next)
  stops-turn k h p e = rw e (ap (map (stop_at o q t)) (steps-turn (λ y. (stop_at o q t y).next) (length t) (stop-on o q t k) x h))

pub fewer : {A : Type 0} (xs : List A) (x : A) (ys : List A) → xs ≡ x ∷ ys → length ys < length xs
fewer xs x ys e = omega (arith, ap length e)

pub each-map : {A B : Type 0} (f : B → Region) (g : A → B) (xs : List A) → each f (map g xs) ≡ each (λ x. f (g x)) xs
each-map f g [] = refl
each-map f g (x ∷ xs) = ap (λ (r : Region). f (g x) ++ r) (each-map f g xs)

pub all-map : {A B : Type 0} (P : B → Type 0) (g : A → B) (xs : List A) → All (λ x. P (g x)) xs → All P (map g xs)
all-map P g [] a = tt
all-map P g (x ∷ xs) a = (a.0, all-map P g xs a.1)
