-- The calls that write regions.
--   silent-ends, told-ends     the two ends of a call: nothing is written, or what x tells is
--   diff_intersect-stand, diff_less-stand, region_tidy-stand, region_intersect-stand, region_less-stand    the operands stand where none is refused
--   diff_intersect-told, diff_less-told, region_tidy-told, region_intersect-told, region_less-told    what each call tells then
--   file-fault, file-lent      a refused file is what the table of a call on it gives; on an accepted file the table goes on
--   record-fault               behind an accepted file, a refused record is what the table gives
use Prim.Native.Nat.{ℕ, ◌≤◌}
use mathlib.Core.Path.{◌≡◌, refl, sym, ap, ap₂, ◌∙◌}
use mathlib.Core.List.{List, append-nil}
use mathlib.Core.Bool.{true}
use Rattle.std.proofs.Common.{Err}
use Rattle.model.specs.Difference.{Region}
use Rattle.model.specs.Tidy.{tidy_region}
use Rattle.model.specs.Algebra.{intersection, subtraction}
use Rattle.answer.specs.declared.Answer.{Answer}
use Rattle.answer.specs.Answer.{accepted, fault}
use Rattle.answer.specs.Refusals.{number_of, Tested}
use Rattle.format.specs.Rows.{Rows, outcome}
use Rattle.format.specs.Limits.{widest}
use Rattle.format.specs.Bytes.{cube_len}
use Rattle.format.specs.Records.{width_of, first_at, difference_at}
use Rattle.format.specs.Files.{fault_number, region_in}
use Rattle.format.specs.Meaning.{Lent}
use Rattle.format.specs.Told.{Told, over, Permitted, silent, record_tests, two_records, lent_file, lent_record, writing_region}
use Rattle.format.specs.Calls.{region_tidy, diff_intersect, region_intersect, diff_less, region_less}
use Rattle.format.proofs.Reached.{skipped}
use Rattle.format.proofs.Lending.{two-passed, two_lent, record-passed, record-refused, record-lent, file-refused, file-passed}
use Rattle.format.proofs.Lending.{silent-answer, silent-bytes, told-answer, told-bytes}
use Rattle.format.proofs.Refusals.{numbered}
use Rattle.format.proofs.Recording.{Record, record_of}
use Rattle.format.proofs.Filing.{File}
use Rattle.region.specs.Front.{front_at}
use Rattle.region.specs.Reader.{RefusedIs}
use Rattle.region.specs.declared.files.Refused.{Refused}
use Rattle.region.proofs.Onward.{file-some}
use Rattle.algebra.specs.Totals.{Stand}
use Rattle.algebra.specs.Results.{whole_told}
use Rattle.algebra.specs.declared.stop.Operation.TheVariants.{Tidy, Intersect, Less}
use Rattle.algebra.proofs.Standing.{Runs, file-runs, record-runs, tidy-stand, intersect-stand, less-stand}
use Rattle.algebra.proofs.Standing.{tidy-shown, intersect-shown, less-shown, whole-written}

-- the two ends of a call: nothing is written, or what x tells is
pub silent-ends : {t : Told} {r a : Answer} {old : List ℕ} → r ≡ a → silent a ≡ t → record { answer : r ≡ t.answer; bytes : old ≡ over old t.bytes }
silent-ends e f = record { answer = silent-answer e f; bytes = silent-bytes f }

pub told-ends : {x t : Told} {r : Answer} {old new : List ℕ} → Permitted x old r new → x ≡ t
    → record { answer : r ≡ t.answer; bytes : new ≡ over old t.bytes }
told-ends {old = old} p f = record { answer = told-answer f p.answer; bytes = told-bytes old f p.buffer }

-- two single records
module _ (w : ℕ) (s t : List ℕ) (e : outcome (two_records w s t) ≡ accepted) where
  lent : Lent w s × Lent w t
  lent = two_lent w s t accepted (sym e) refl

  one : Record true w 0 s 0
  one = record_of true w 0 s 0 lent.0.sound

  other : Record true w 0 t 0
  other = record_of true w 0 t 0 lent.1.sound

  pub diff_intersect-stand : record { narrow : w ≤ widest; stand : Stand Intersect (cube_len w) s 0 t 0 }
  diff_intersect-stand = (record { narrow = lent.0.narrow; stand = intersect-stand w lent.0.some lent.0.narrow (record-runs one) (record-runs other) })

  pub diff_intersect-told : (room : ℕ) → whole_told Intersect w s 0 t 0 room ≡ diff_intersect w s t room
  unfolding diff_intersect
  diff_intersect-told room =
      whole-written w _ _ room (intersect-shown w (record-runs one) (record-runs other))
      ∙ ap (λ (p : Region). outcome (writing_region w (tidy_region p) room))
      (append-nil _ ∙ append-nil (intersection (difference_at w s 0) (difference_at w t 0)))
      ∙ two-passed w s t accepted (sym e) _ refl

  -- where the base of the second stands
  module _ (b : ℕ) (is : b ≡ (front_at t 0).base) where
    pub diff_less-stand : record { narrow : w ≤ widest; stand : Stand (Less b) (cube_len w) s 0 t b }
    diff_less-stand = rw is (record { narrow = lent.0.narrow; stand = less-stand w lent.0.some lent.0.narrow (record-runs one) other })

    pub diff_less-told : (room : ℕ) → whole_told (Less b) w s 0 t b room ≡ diff_less w s t room
    unfolding diff_less
    diff_less-told room =
        ap (λ (x : ℕ). whole_told (Less x) w s 0 t x room) is
        ∙ whole-written w _ _ room (less-shown w lent.0.some (record-runs one) other)
        ∙ ap (λ (p : Region). outcome (writing_region w (tidy_region p) room)) (append-nil (subtraction (difference_at w s 0) (difference_at w t 0)))
        ∙ two-passed w s t accepted (sym e) _ refl

-- region files
pub file-fault : {s : List ℕ} {f : Refused} → RefusedIs s f → (o : ℕ) (k : Rows Told)
    → silent (fault (number_of f.refusal) o f.offset) ≡ outcome (lent_file s o k)
file-fault {s} {f} i o k = file-refused s o k (number_of f.refusal) f.offset i.number i.offset (numbered f.refusal)

pub file-lent : {s : List ℕ} → File s → (o : ℕ) (k : Rows Told) → outcome k ≡ outcome (lent_file s o k)
file-lent {s} f o k = file-passed s o k (ap fault_number f.read)

-- the first file, with its width and where its first record stands, as a call knows them
module _ {s : List ℕ} (f : File s) (w a : ℕ) (width : w ≡ width_of s) (first : a ≡ first_at s) where
  pub region_tidy-stand : record { narrow : w ≤ widest; stand : Stand Tidy (cube_len w) s a s 0 }
  region_tidy-stand = rw (width, first) (record {
    narrow = f.width.narrow;
    stand = tidy-stand (width_of s) f.width.some f.width.narrow s
        (file-runs f) (file-some f);
  })

  pub region_tidy-told : (room : ℕ) → whole_told Tidy w s a s 0 room ≡ region_tidy s room
  unfolding region_tidy
  region_tidy-told room =
      ap₂ (λ (v x : ℕ). whole_told Tidy v s x s 0 room) width first
      ∙ whole-written (width_of s) _ _ room (tidy-shown (width_of s) s (file-runs f) (file-some f))
      ∙ file-lent f 1 _

  -- a second file of that width
  module _ {t : List ℕ} (g : File t) (e : width_of s ≡ width_of t) (b : ℕ) (second : b ≡ first_at t) where
    runs : Runs (width_of s) t (first_at t) (region_in t)
    runs = rw e (file-runs g)

    pub region_intersect-stand : record { narrow : w ≤ widest; stand : Stand Intersect (cube_len w) s a t b }
    region_intersect-stand = rw (width, first, second) (record
        { narrow = f.width.narrow; stand = intersect-stand (width_of s) f.width.some f.width.narrow (file-runs f) runs })

    pub region_intersect-told : (room : ℕ) → whole_told Intersect w s a t b room ≡ region_intersect s t room
    unfolding region_intersect
    region_intersect-told room =
        ap₂ (λ (v x : ℕ). whole_told Intersect v s x t b room) width first
        ∙ ap (λ (y : ℕ). whole_told Intersect (width_of s) s (first_at s) t y room) second
        ∙ whole-written (width_of s) _ _ room (intersect-shown (width_of s) (file-runs f) runs)
        ∙ skipped 1 _ (e, tt)
        ∙ file-lent g 2 _
        ∙ file-lent f 1 _

  -- a single record of that width, and where its base stands
  module _ (t : List ℕ) (e : outcome (record_tests w t 2) ≡ accepted) (b : ℕ) (is : b ≡ (front_at t 0).base) where
    tested : outcome (record_tests (width_of s) t 2) ≡ accepted
    tested = rw width at e

    single : Record true (width_of s) 0 t 0
    single = record_of true (width_of s) 0 t 0 (record-lent (width_of s) t 2 accepted (sym tested) refl)

    pub region_less-stand : record { narrow : w ≤ widest; stand : Stand (Less b) (cube_len w) s a t b }
    region_less-stand = rw (width, first, is) (record {
      narrow = f.width.narrow;
      stand = less-stand (width_of s) f.width.some f.width.narrow
          (file-runs f) single;
    })

    pub region_less-told : (room : ℕ) → whole_told (Less b) w s a t b room ≡ region_less s t room
    unfolding region_less
    region_less-told room =
        ap₂ (λ (v x : ℕ). whole_told (Less b) v s x t b room) width first
        ∙ ap (λ (y : ℕ). whole_told (Less y) (width_of s) s (first_at s) t y room) is
        ∙ whole-written (width_of s) _ _ room (less-shown (width_of s) f.width.some (file-runs f) single)
        ∙ record-passed (width_of s) t 2 accepted (sym tested) _ refl
        ∙ file-lent f 1 _

  -- a record of that width that is refused
  pub record-fault : (t : List ℕ) (r : Answer) → Tested (outcome (record_tests w t 2)) (Err r) → (k : Rows Told)
      → silent r ≡ outcome (lent_file s 1 (lent_record (width_of s) t 2 k))
  record-fault t r i k =
      let is : r ≡ outcome (record_tests (width_of s) t 2) = rw width at i.0 in
      record-refused (width_of s) t 2 r is k i.1 ∙ file-lent f 1 _
