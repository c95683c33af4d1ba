-- How walks end that are walked one after another on an allowance.
--   ending q n i s      == that no piece survives a walk of n pieces with the index i, for the allowance ends; or that the piece s does
--   stopped q x         == the decision that the walk x makes, which is not covered, over pieces of q bytes
--   CoveredIs o i r     == r is what the walk with the outcome o and the index i leaves of the allowance, where it is covered; else that it stops
--   Ended q a k vs r    == r is how the walks vs end, over pieces of q bytes, on the allowance a: what all leave of it where they are covered; else the
--                          decision of the one where they stop, whose index is counted from k
--   whole_walks w r      == the walks of the differences of r, which have w positions, over whole bytes
use Rattle.std.specs.Prelude.{ℕ, List, ◌≡◌, ◌+◌, map, Option, Some, None, Result, MatchResult}
use Rattle.model.specs.Difference.{Region}
use Rattle.model.specs.Walk.{nothing, Found, in_turn, walk, stop, Decision, undecided, member}
use Rattle.model.specs.Padding.{pad_found}
use Rattle.format.specs.Bytes.{unused}
use Rattle.cube.specs.Whole.{cube_of}
use Rattle.visits.specs.declared.allowance.Allowance.{Allowance}
use Rattle.visits.specs.declared.allowance.Verdict.TheVariants.{Covered}
use Rattle.visits.specs.declared.allowance.Outcome.{Outcome}
use Rattle.visits.specs.Settle.{settle, said_of, says, decision}
use Rattle.walk.specs.declared.stop.Stop.{Stop}

abbrev pub ending : ℕ → ℕ → ℕ → Option (List ℕ) → Decision
ending q n i None = undecided n i
ending q n i (Some p) = member n i (cube_of q p)

abbrev pub stopped : ℕ → Stop → Decision
stopped q x = ending q x.spent x.index x.survivor

abbrev pub CoveredIs : Outcome (List ℕ) → ℕ → Result Allowance Stop → Type 0
CoveredIs o i r =
    MatchResult r
    (λ left. (o.verdict ≡ Covered) × (left ≡ o.allowance))
    (λ x. ¬ (o.verdict ≡ Covered) × ((q : ℕ) → stopped q x ≡ decision i (says q o)))

abbrev pub Ended : ℕ → Allowance → ℕ → List Found → Result Allowance Stop → Type 0
Ended q a k vs r =
    let all = settle a (in_turn (λ v. v) vs) in
    MatchResult r
    (λ left. said_of left nothing ≡ all)
    (λ x. stopped q x ≡ decision (k + stop a.left vs) all)

abbrev pub whole_walks : ℕ → Region → List Found
whole_walks w r = map (pad_found (unused w)) (map walk r)
