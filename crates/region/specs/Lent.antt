-- Single records that are lent.
--   LentIs a w s x     == x is what the tests of the record s of w positions end in, whose answer is a: its difference, or the refusal
--   BothLent w s t x   == the same of two records beside a width given directly
use Rattle.std.specs.Prelude.{ℕ, ◌≡◌, List, Result, MatchResult}
use Rattle.answer.specs.declared.Answer.{Answer}
use Rattle.answer.specs.Answer.{accepted}
use Rattle.format.specs.Rows.{outcome}
use Rattle.format.specs.Told.{two_records}
use Rattle.region.specs.declared.difference.Difference.{Difference}
use Rattle.region.specs.Difference.{DifferenceAt}

abbrev pub LentIs : Answer → ℕ → List ℕ → Result Difference Answer → Type 0
LentIs a w s x = MatchResult x (λ d. (a ≡ accepted) × DifferenceAt w s 0 d) (λ e. (e ≡ a) × ¬ (e.number ≡ 0))

abbrev pub BothLent : ℕ → List ℕ → List ℕ → Result (Difference × Difference) Answer → Type 0
BothLent w s t x = MatchResult x (λ p. (outcome (two_records w s t) ≡ accepted) × DifferenceAt w s 0 p.0 × DifferenceAt w t 0 p.1)
    (λ e. (e ≡ outcome (two_records w s t)) × ¬ (e.number ≡ 0))
