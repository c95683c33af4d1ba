-- What the walk answers, whatever it is lent.
--   possible_rows               == the tests of the next line
--   possible n q at left a     == cubes of q bytes are no wider than those of the widest header, no more cuts are left than inclusion has, they stand
--                                 within n bytes from an offset on, and no more pieces are left and spent than can be counted
--   idle a                     == nothing is visited: undecided, and the allowance a is as it was
--   walked q piece s at left a == the walk of the piece in the first q bytes of `piece`, with the `left` cuts of q bytes that stand in s from `at` on
--   PossibleWalk s q at left a x == x is the cuts of that walk and its allowance, or none where it cannot be
--   Resumed a r o              == the outcome o is the outcome r, with what it leaves of the allowance a
use Rattle.std.specs.Prelude.{ℕ, ◌+◌, ◌-◌, ◌*◌, ◌≡◌, List, [], Bool, true, false, cond, length, Option, MatchOption}
use Rattle.std.specs.Borrow.{Bor}
use Rattle.model.specs.Walk.{visit}
use Rattle.model.specs.Ceiling.{most_pieces}
use Rattle.format.specs.Rows.{Rows, last, row, below, outcome}
use Rattle.cube.specs.Whole.{cube_of, wholes_at}
use Rattle.cube.specs.Row.{RowOf}
use Rattle.visits.specs.declared.allowance.Allowance.{Allowance}
use Rattle.visits.specs.declared.allowance.Purse.{Purse}
use Rattle.visits.specs.declared.cuts.Cuts.{Cuts}
use Rattle.visits.specs.declared.allowance.Outcome.{Outcome}
use Rattle.visits.specs.declared.allowance.Verdict.TheVariants.{Undecided}
use Rattle.visits.specs.Settle.{Said, settle}

abbrev pub possible_rows : ℕ → ℕ → ℕ → ℕ → Allowance → Rows Bool
possible_rows n q at left a =
    row (below 80 q) false
    (row (below 65 left) false
    (row (below n (at + left * q)) false
    (row (below most_pieces (a.left + a.spent)) false
    (last true))))

unfoldable pub possible : ℕ → ℕ → ℕ → ℕ → Allowance → Bool
possible n q at left a = outcome (possible_rows n q at left a)

abbrev pub idle : Allowance → Said
idle a = record { allowance = a; verdict = Undecided; piece = [] }

unfoldable pub walked : ℕ → List ℕ → List ℕ → ℕ → ℕ → Allowance → Said
walked q piece s at left a =
    cond (possible (length s) q at left a) (settle a (visit (wholes_at q s at left) (cube_of q piece))) (idle a)

abbrev pub PossibleWalk : Bor (List ℕ) → ℕ → ℕ → ℕ → Allowance → Option (Cuts × Purse) → Type 0
PossibleWalk s q at left a x =
    MatchOption x (possible (length s.now) q at left a ≡ false) (λ y. (possible (length s.now) q at left a ≡ true) × RowOf s.now at q left y.0.row × (y.1.allowance ≡ a))

pub record Resumed (a : Allowance) (r o : Outcome (List ℕ)) : Type 0 where
  pub left : o.allowance.left ≡ a.left - (r.allowance.spent - a.spent)
  pub spent : o.allowance.spent ≡ r.allowance.spent
  pub verdict : o.verdict ≡ r.verdict
  pub piece : o.piece ≡ r.piece
