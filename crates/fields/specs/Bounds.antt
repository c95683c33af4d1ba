-- Where a field stands.
--   field_tests w s n == the tests of a width given directly, and then of a field of n positions from s on
use Rattle.std.specs.Prelude.{ℕ, ◌+◌}
use Rattle.answer.specs.declared.Answer.{Answer}
use Rattle.answer.specs.Answer.{accepted, refused}
use Rattle.format.specs.Rows.{Rows, last, row, then, below, is}
use Rattle.format.specs.Told.{width_tests}

-- FORMAT 78
abbrev pub field_tests : ℕ → ℕ → ℕ → Rows Answer
field_tests w s n =
    then (width_tests w)
    (row (is n 0) (refused 21)
    (row (below w (s + n)) (refused 21)
    (last accepted)))
