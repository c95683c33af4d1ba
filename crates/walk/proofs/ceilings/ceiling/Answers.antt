-- `walk::ceilings::ceiling` meets its contract.
use mathlib.Core.Path.{ap, ◌∙◌}
use Rattle.model.specs.Ceiling.{ceiling, capped}
use Rattle.answer.specs.Answer.{counted}
use Rattle.format.proofs.Lending.{one-refused}
use Rattle.format.specs.Calls.{ceiling_of}
use Rattle.format.specs.Told.{Told, silent}
use Rattle.format.specs.Records.{difference_at}
use Rattle.format.specs.Rows.{last}
use Rattle.walk.proofs.Recorded.{ceiling-told}
use Rattle.walk.proofs.ceilings.ceiling.Goals as goal

pub returns-in-Ok : goal.returns-in-Ok
returns-in-Ok c =
    let lent = c.in-Ok.ensures in
    c.counted.ensures ∙ ap (λ (t : Told). t.answer) (ceiling-told c.args.w c.args.s.now lent.0 lent.1 _ c.bound.ensures)

pub returns-in-Err : goal.returns-in-Err
unfolding ceiling_of
returns-in-Err c =
    let x = c.args in
    let k = last (silent (counted 0 (capped (ceiling (difference_at x.w x.s.now 0))))) in
    ap (λ (t : Told). t.answer) (one-refused x.w x.s.now _ c.in-Err.ensures.0 silent k c.in-Err.ensures.1)
