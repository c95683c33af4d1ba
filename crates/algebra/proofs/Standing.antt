-- Accepted operands: their records and the stops in them stand within, and what is made of them is the operation's region, tidied.
--   Runs w s a r       == the records of s from a on are accepted, and hold the region r of width w
--   file-runs, record-runs     those of an accepted file, and of an accepted single record
--   ShowsRegion w p r        == the region p of differences of whole bytes is the region r of width w
--   tidy-stand, intersect-stand, less-stand    the operands of each operation stand
--   tidy-shown, intersect-shown, less-shown    what each operation makes is its region, tidied
--   whole-written      what is told of a result that is to be written
use Prim.Native.Nat.{ℕ, zero, suc, ◌+◌, ◌*◌, ◌≤◌, ◌<◌}
use native.Mathlib.Omega.{arith}
use mathlib.Core.Path.{◌≡◌, refl, sym, ap, ap₂, ◌∙◌}
use mathlib.Core.List.{List, [], ◌∷◌, map}
use mathlib.Core.Bool.{true}
use lib.ListN.{length, length-map}
use Rattle.model.specs.Difference.{Region}
use Rattle.model.specs.Sized.{All, Good}
use Rattle.model.specs.Tidy.{tidy_region}
use Rattle.model.specs.Algebra.{intersections, subtractions}
use Rattle.model.specs.Padding.{pad_difference}
use Rattle.model.proofs.Tidying.{tidy_region-keeps}
use Rattle.model.proofs.Setting.{good-intersections, good-subtractions}
use Rattle.model.proofs.PaddedOperations.{tidy-padded, intersections-padded, subtractions-padded}
use Rattle.format.specs.Limits.{widest}
use Rattle.format.specs.Bytes.{cube_len, unused}
use Rattle.format.specs.Records.{width_of, first_at, difference_at, file_bytes}
use Rattle.format.specs.Files.{region_of, region_in}
use Rattle.format.specs.Rows.{outcome}
use Rattle.format.specs.Told.{writing_region}
use Rattle.format.proofs.Recording.{Record, good-read}
use Rattle.format.proofs.Filing.{Listed, ended, listed, File}
use Rattle.region.specs.Front.{front_at, Stands}
use Rattle.region.specs.Ahead.{ahead}
use Rattle.region.proofs.Fronts.{front-own, front-stands, whole-record}
use Rattle.region.proofs.Strides.{steps-end}
use Rattle.region.proofs.Onward.{listed-ahead}
use Rattle.algebra.specs.Stops.{stop_at, Room}
use Rattle.algebra.specs.Totals.{total, RecordsStand, StopsStand, Stand}
use Rattle.algebra.specs.Results.{whole_rows}
use Rattle.algebra.specs.declared.stop.Operation.TheVariants.{Tidy, Intersect, Less}
use Rattle.algebra.proofs.Stepping.{less-room}
use Rattle.algebra.proofs.Operating.{whole_there, whole_region, tidy-stops, tidy-total, intersect-total, less-turn, less-total}
use Rattle.algebra.proofs.Padded.{bytes-padded, long-padded}

pub record Runs (w : ℕ) (s : List ℕ) (a : ℕ) (r : Region) : Type 0 where
  pub stand : RecordsStand (cube_len w) s a
  pub whole : whole_region (cube_len w) s a ≡ map (pad_difference (unused w)) r
  pub good : All (Good w) r

-- accepted records, one after another
module _ {w : ℕ} {s : List ℕ} where
  listed-stand : {at n : ℕ} {os : List ℕ} → Listed w s at n os → All (λ b. Stands (cube_len w) s (front_at s b)) os
  listed-stand (ended h) = tt
  listed-stand (listed {at} r rest) = (front-stands r (front-own s at), listed-stand rest)

  listed-whole : {at n : ℕ} {os : List ℕ} → Listed w s at n os
      → map (whole_there (cube_len w) s) os ≡ map (pad_difference (unused w)) (region_of w s os)
  listed-whole (ended h) = refl
  listed-whole (listed {at} r rest) = λ i. whole-record r (front-own s at) i ∷ listed-whole rest i

  listed-good : {at n : ℕ} {os : List ℕ} → Listed w s at n os → All (Good w) (region_of w s os)
  listed-good (ended h) = tt
  listed-good (listed r rest) = (good-read r, listed-good rest)

  runs : {at n : ℕ} {os : List ℕ} → Listed w s at n os → Runs w s at (region_of w s os)
  runs l = record { stand = rw (listed-ahead l) (listed-stand l); whole = rw (listed-ahead l) (listed-whole l); good = listed-good l }

pub file-runs : {s : List ℕ} → File s → Runs (width_of s) s (first_at s) (region_in s)
file-runs f = runs f.list

pub record-runs : {w n : ℕ} {s : List ℕ} → Record true w n s 0 → Runs w s 0 (difference_at w s 0 ∷ [])
record-runs {n = n} r = runs {n = n} (listed (omega (arith, r)) (ended (omega (arith, r.lone))))

-- the cubes of a record that is alone end with its bytes
alone-end : {w n : ℕ} {s : List ℕ} → Record true w n s 0 → length s ≡ (front_at s 0).base + ((front_at s 0).cuts + 1) * cube_len w
alone-end r = omega (arith, r.lone, r.within, r.next)

-- what stands
module _ (w : ℕ) (some : 1 ≤ w) (narrow : w ≤ widest) where
  pub tidy-stand : {s : List ℕ} {a : ℕ} {r : Region} (t : List ℕ) → Runs w s a r → 0 < length t → Stand Tidy (cube_len w) s a t 0
  unfolding stop_at
  tidy-stand {s = s} t r h =
      let room : Room (cube_len w) t (stop_at Tidy (cube_len w) t 0) = record { cube = λ y e. cc; cuts = omega arith; few = omega arith } in
      record { some = omega arith; wide = omega arith; records = r.stand; stands = rw (tidy-stops (cube_len w) s t h) (room, tt) }

  intersect-all : (t : List ℕ) (xs : List ℕ) → All (λ x. Stands (cube_len w) t (front_at t x)) xs
      → All (λ x. Room (cube_len w) t (stop_at Intersect (cube_len w) t x)) xs
  unfolding stop_at
  intersect-all t [] a = tt
  intersect-all t (x ∷ xs) a = (
    record { cube = λ y e. let same : (front_at t x).base ≡ y = cc in omega arith; cuts = omega arith; few = a.0.few },
    intersect-all t xs a.1,
  )

  pub intersect-stand : {s t : List ℕ} {a x : ℕ} {r p : Region} → Runs w s a r → Runs w t x p → Stand Intersect (cube_len w) s a t x
  unfolding stop_at
  intersect-stand {t = t} {x = x} r p =
      record { some = omega arith; wide = omega arith; records = r.stand; stands = intersect-all t (ahead t x) p.stand }

  less-all : (s t : List ℕ) (b n x : ℕ) → x + n * cube_len w ≡ length t → StopsStand (Less b) (cube_len w) t x
  less-all s t b zero x e = rw (steps-end (λ y. (stop_at (Less b) (cube_len w) t y).next) (length t) x (omega arith)) tt
  less-all s t b (suc n) x e =
      rw (less-turn (cube_len w) s t b (omega arith) x (omega arith))
      (less-room b (cube_len w) t x (omega arith), less-all s t b n (x + cube_len w) (omega arith))

  pub less-stand : {s t : List ℕ} {a n : ℕ} {r : Region} → Runs w s a r → Record true w n t 0
      → Stand (Less (front_at t 0).base) (cube_len w) s a t (front_at t 0).base
  less-stand {s = s} {t = t} r one =
      let all = less-all s t (front_at t 0).base ((front_at t 0).cuts + 1) (front_at t 0).base (sym (alone-end one)) in
      record { some = omega arith; wide = omega arith; records = r.stand; stands = all }

-- what is made
pub record ShowsRegion (w : ℕ) (p r : Region) : Type 0 where
  pub same : p ≡ map (pad_difference (unused w)) r
  pub good : All (Good w) r

module _ (w : ℕ) where
  shown : (p r : Region) → p ≡ map (pad_difference (unused w)) r → All (Good w) r → ShowsRegion w (tidy_region p) (tidy_region r)
  shown p r e g = record { same = ap tidy_region e ∙ tidy-padded w (unused w) r g; good = tidy_region-keeps w r g }

  pub tidy-shown : {s : List ℕ} {a : ℕ} {r : Region} (t : List ℕ) → Runs w s a r → 0 < length t
      → ShowsRegion w (total Tidy (cube_len w) s a t 0) (tidy_region r)
  tidy-shown {s} {a} {r} t x h = rw (tidy-total (cube_len w) s t a h) (shown _ r x.whole x.good)

  pub intersect-shown : {s t : List ℕ} {a x : ℕ} {r p : Region} → Runs w s a r → Runs w t x p
      → ShowsRegion w (total Intersect (cube_len w) s a t x) (tidy_region (intersections r p))
  intersect-shown {s} {t} {a} {x} {r} {p} m n =
      let same = ap₂ intersections m.whole n.whole ∙ intersections-padded w (unused w) r p m.good n.good in
      rw (intersect-total (cube_len w) s t a x) (shown _ (intersections r p) same (good-intersections w r p m.good n.good))

  pub less-shown : {s t : List ℕ} {a n : ℕ} {r : Region} → 1 ≤ w → Runs w s a r → Record true w n t 0
      → ShowsRegion w (total (Less (front_at t 0).base) (cube_len w) s a t (front_at t 0).base) (tidy_region (subtractions r (difference_at w t 0)))
  less-shown {s} {t} {a} {r = r} some m one =
      let d = difference_at w t 0 in
      let same = ap₂ subtractions m.whole (whole-record one (front-own t 0)) ∙ subtractions-padded w (unused w) r d m.good (good-read one) in
      rw (less-total (cube_len w) s t (front_at t 0).base (omega arith) a (front_at t 0).cuts (alone-end one))
      (shown _ (subtractions r d) same (good-subtractions w r d m.good (good-read one)))

pub whole-written : (w : ℕ) (p r : Region) (room : ℕ) → ShowsRegion w p r → outcome (whole_rows w p room) ≡ outcome (writing_region w r room)
unfolding file_bytes
whole-written w p r room h =
    rw (h.same, long-padded (unused w) r, length-map r (pad_difference (unused w)), bytes-padded w r h.good)
