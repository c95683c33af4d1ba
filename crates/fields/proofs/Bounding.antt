-- The tests of a field, before the table of a call.
--   FieldIn w s n    == the width w is accepted, and the field of n positions from s on stands in it
--   field-refused    a refusal of the width or the field is what the call's table gives
--   field-stands     where there is none, the field stands
--   field-again      the tests of a second field of the same length are one row more
use Prim.Native.Nat.{ℕ, ◌+◌, ◌≤◌, ◌<◌}
use native.Mathlib.Omega.{arith}
use Rattle.std.specs.Prelude.{Ok, Err}
use mathlib.Core.Path.{◌≡◌, refl, sym, ◌∙◌}
use Rattle.answer.specs.declared.Answer.{Answer}
use Rattle.answer.specs.Answer.{accepted, refused}
use Rattle.answer.specs.Refusals.{Tested}
use Rattle.format.specs.Rows.{Rows, row, below, onto, outcome}
use Rattle.format.specs.Limits.{widest}
use Rattle.format.specs.Told.{Told, silent}
use Rattle.format.proofs.Reached.{skipped}
use Rattle.format.proofs.Lending.{tests-refused, tests-past}
use Rattle.fields.specs.Bounds.{field_tests}

pub record FieldIn (w s n : ℕ) : Type 0 where
  pub narrow : w ≤ widest
  pub some : 0 < n
  pub inside : s + n ≤ w

pub field-refused : (w s n : ℕ) (r : Answer) → Tested (outcome (field_tests w s n)) (Err r) → (k : Rows Told) → silent r ≡ outcome (onto silent (field_tests w s n) k)
field-refused w s n r t k = tests-refused (field_tests w s n) r t.0 silent k (omega arith) t.1

pub field-stands : (w s n : ℕ) → Tested (outcome (field_tests w s n)) (Ok tt) → FieldIn w s n
field-stands w s n t =
    let p = tests-past (field_tests w s n) accepted (sym t) (omega arith) refl in record { narrow = p.1.0; some = omega arith; inside = p.1.1.1.0 }

pub field-again : (w p q n : ℕ) (k : Rows Told) → FieldIn w p n
    → outcome (onto silent (field_tests w q n) k) ≡ outcome (onto silent (field_tests w p n) (row (below w (q + n)) (silent (refused 21)) k))
field-again w p q n k f =
    sym (skipped 3 (onto silent (field_tests w q n) k) (omega arith))
    ∙ skipped 4 (onto silent (field_tests w p n) (row (below w (q + n)) (silent (refused 21)) k)) (omega arith)
