-- The whole result of an operation, and what is counted of it and written.
--   stops o q t x         == where the operation o stops in the second operand, from an offset on
--   made o q t d x        == the difference that the difference d and the stop at x make, tidied, or none
--   total o q s a t x     == all that the records from a on and the stops from x on make
--   RecordsStand q s a    == the records of s from a on stand in it, their cubes of q bytes each
--   StopsStand o q t x    == what the stops from x on name stands within t
--   Stand o q s a t x     == these records and these stops stand within their operands
--   Stand-prop            they stand in one way only
--   Counts q r old new t  == t counts the region r, in which no difference has too many cuts, up to one difference more than may be written; and where r may
--                            be written and fits a buffer that held old, the buffer is now new, with its records over the front
--   Counted q r old new x == x counts the region r so, or refuses it where a difference has too many cuts
--   Adds q r out sum new x == whatever sum counts and out has of it, x counts with the region r after it, and new has
use Rattle.std.specs.Prelude.{ℕ, ◌+◌, ◌*◌, ◌≤◌, ◌≡◌, List, [], ◌∷◌, ◌++◌, true, false, length, take, Result, MatchResult}
use Rattle.std.specs.Coded.{×_prop, Unit-prop, le_prop}
use Rattle.model.specs.Difference.{Difference, Region}
use Rattle.model.specs.Sized.{All}
use Rattle.model.specs.Tidy.{each, tidy_region}
use Rattle.format.specs.Limits.{widest_cube, most_differences}
use Rattle.answer.specs.declared.refusal.Refusal.{Refusal}
use Rattle.answer.specs.declared.refusal.Refusal.TheVariants.{Cuts}
use Rattle.format.specs.Records.{differences_bytes}
use Rattle.format.specs.Told.{over, any_long}
use Rattle.region.specs.Front.{front_at, Stands, whole_difference}
use Rattle.region.specs.Ahead.{steps, ahead}
use Rattle.algebra.specs.Stops.{stop_at, Room, pieces_of}
use Rattle.algebra.specs.declared.stop.Operation.{Operation}
use Rattle.algebra.specs.declared.stop.Stop.{Stop}
use Rattle.region.specs.declared.front.Front.{Front}
use Rattle.algebra.specs.declared.totals.Totals.{Totals}

abbrev pub stops : Operation → ℕ → List ℕ → ℕ → List ℕ
stops o q t x = steps (λ y. (stop_at o q t y).next) (length t) x

unfoldable pub made : Operation → ℕ → List ℕ → Difference → ℕ → Region
made o q t d x = tidy_region (pieces_of q d t (stop_at o q t x))

unfoldable pub total : Operation → ℕ → List ℕ → ℕ → List ℕ → ℕ → Region
total o q s a t x = each (λ b. each (made o q t (whole_difference q s (front_at s b))) (stops o q t x)) (ahead s a)

abbrev pub RecordsStand : ℕ → List ℕ → ℕ → Type 0
RecordsStand q s a = All (λ b. Stands q s (front_at s b)) (ahead s a)

abbrev pub StopsStand : Operation → ℕ → List ℕ → ℕ → Type 0
StopsStand o q t x = All (λ y. Room q t (stop_at o q t y)) (stops o q t x)

pub record Stand (o : Operation) (q : ℕ) (s : List ℕ) (a : ℕ) (t : List ℕ) (x : ℕ) : Type 0 where
  pub some : 1 ≤ q
  pub wide : q ≤ widest_cube
  pub records : RecordsStand q s a
  pub stands : StopsStand o q t x

all-prop : {A : Type 0} (P : A → Type 0) → ((x : A) → IsProp (P x)) → (xs : List A) → IsProp (All P xs)
all-prop P f [] = Unit-prop
all-prop P f (x ∷ xs) = ×_prop (f x) (all-prop P f xs)

stands-prop : (q : ℕ) (s : List ℕ) (f : Front) → IsProp (Stands q s f)
stands-prop q s f x y = λ i. record { few = le_prop x.few y.few i; within = le_prop x.within y.within i }

room-prop : (q : ℕ) (t : List ℕ) (p : Stop) → IsProp (Room q t p)
room-prop q t p x y = λ i. record { cube = λ z e. le_prop (x.cube z e) (y.cube z e) i; cuts = le_prop x.cuts y.cuts i; few = le_prop x.few y.few i }

pub Stand-prop : (o : Operation) (q : ℕ) (s : List ℕ) (a : ℕ) (t : List ℕ) (x : ℕ) → IsProp (Stand o q s a t x)
Stand-prop o q s a t x y z =
    λ i. record {
      some = le_prop y.some z.some i;
      wide = le_prop y.wide z.wide i;
      records = all-prop (λ b. Stands q s (front_at s b)) (λ b. stands-prop q s (front_at s b)) (ahead s a) y.records z.records i;
      stands = all-prop (λ b. Room q t (stop_at o q t b)) (λ b. room-prop q t (stop_at o q t b)) (stops o q t x) y.stands z.stands i;
    }

pub record Counts (q : ℕ) (r : Region) (old new : List ℕ) (t : Totals) : Type 0 where
  pub short : any_long r ≡ false
  pub count : t.count ≡ length (take (most_differences + 1) r)
  pub size : t.size ≡ length (differences_bytes (4 * q) (take (most_differences + 1) r))
  pub written : length r ≤ most_differences → length (differences_bytes (4 * q) r) ≤ length old → new ≡ over old (differences_bytes (4 * q) r)

abbrev pub Counted : ℕ → Region → List ℕ → List ℕ → Result Totals Refusal → Type 0
Counted q r old new x = MatchResult x (Counts q r old new) (λ e. (any_long r ≡ true) × (e ≡ Cuts))

abbrev pub Adds : ℕ → Region → List ℕ → Totals → List ℕ → Result Totals Refusal → Type 0
Adds q r out sum new x = (done : Region) (old : List ℕ) → Counts q done old out sum → Counted q (done ++ r) old new x
