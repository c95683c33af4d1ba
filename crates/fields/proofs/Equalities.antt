-- What an equality of two fields is answered.
--   equal-first-refused, equal-second-refused   the width or a field is refused
--   equal-many      more positions have cuts than a difference may have
--   equal-short     there is no room for its record
--   equal-written   its record is written
use Prim.Native.Nat.{ℕ, ◌*◌, ◌≤◌, ◌<◌}
use native.Mathlib.Omega.{arith}
use Rattle.std.specs.Prelude.{Err}
use mathlib.Core.Path.{◌≡◌, sym, ap₂, ◌∙◌}
use mathlib.Core.List.{List}
use lib.ListN.{length}
use Rattle.model.specs.Fields.{fields_equal}
use Rattle.answer.specs.declared.Answer.{Answer}
use Rattle.answer.specs.Answer.{refused, wrote}
use Rattle.answer.specs.Refusals.{Tested}
use Rattle.format.specs.Rows.{outcome}
use Rattle.format.specs.Bytes.{cube_len}
use Rattle.format.specs.Records.{difference_bytes}
use Rattle.format.specs.Told.{Told, silent, writing}
use Rattle.format.specs.Calls.{equal_fields}
use Rattle.format.proofs.Reached.{reached, skipped}
use Rattle.region.specs.Writing.{record_len}
use Rattle.fields.specs.Equality.{most_pairs, pairs, equal_bytes}
use Rattle.fields.proofs.Fielding.{equal-cuts, equal-bytes, equal-size}
use Rattle.fields.specs.Bounds.{field_tests}
use Rattle.fields.proofs.Bounding.{FieldIn, field-refused, field-again}

module _ (w p q n room : ℕ) (r : Answer) where
  pub equal-first-refused : Tested (outcome (field_tests w p n)) (Err r) → silent r ≡ equal_fields w p q n room
  unfolding equal_fields
  equal-first-refused t = field-refused w p n r t _

  pub equal-second-refused : FieldIn w p n → Tested (outcome (field_tests w q n)) (Err r) → silent r ≡ equal_fields w p q n room
  unfolding equal_fields
  equal-second-refused f t = field-refused w q n r t _ ∙ field-again _ _ _ _ _ f

module _ (w p q n room : ℕ) (f : FieldIn w p n) (g : FieldIn w q n) where
  pub equal-many : most_pairs < pairs p q n → silent (refused 18) ≡ equal_fields w p q n room
  unfolding equal_fields
  equal-many h = let cuts = equal-cuts w p q n in reached 5 _ (omega (arith, f, g, cuts, h))

  module _ (few : pairs p q n ≤ most_pairs) where
    size : length (difference_bytes w (fields_equal w p q n)) ≡ record_len (2 * pairs p q n) (cube_len w)
    size = equal-size w p q n (omega (arith, few)) (omega (arith, g))

    goes-on : outcome (writing (difference_bytes w (fields_equal w p q n)) room) ≡ equal_fields w p q n room
    unfolding equal_fields
    goes-on = let cuts = equal-cuts w p q n in skipped 6 _ (omega (arith, f, g, cuts, few))

    pub equal-short : room < record_len (2 * pairs p q n) (cube_len w) → silent (refused 22) ≡ equal_fields w p q n room
    equal-short h = reached 0 _ (rw size h) ∙ goes-on

    pub equal-written : record_len (2 * pairs p q n) (cube_len w) ≤ room
        → record { answer = wrote (record_len (2 * pairs p q n) (cube_len w)); bytes = equal_bytes w p q (pairs p q n) } ≡ equal_fields w p q n room
    equal-written h =
        let wrote-bytes : ℕ → List ℕ → Told = λ k bs. record { answer = wrote k; bytes = bs } in
        ap₂ wrote-bytes (sym size) (sym (equal-bytes w p q n)) ∙ reached 1 _ (rw size h, tt) ∙ goes-on
