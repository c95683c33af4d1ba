-- `region::calls::region_member` meets its contract.
use mathlib.Core.Path.{ap, ◌∙◌}
use Rattle.format.proofs.Lending.{file-refused}
use Rattle.format.proofs.Refusals.{numbered}
use Rattle.format.specs.Told.{Told}
use Rattle.format.specs.Calls.{region_member}
use Rattle.region.proofs.Membership.{region-told}
use Rattle.region.proofs.calls.region_member.Goals as goal

pub returns-in-Err : goal.returns-in-Err
unfolding region_member
returns-in-Err c =
    let i = c.in-Err.ensures in
    c.of_operand.ensures ∙ ap (λ (t : Told). t.answer) (file-refused c.args.s.now 1 _ _ _ i.number i.offset (numbered _))

pub returns-in-Ok : goal.returns-in-Ok
returns-in-Ok c = c.told.ensures ∙ ap (λ (t : Told). t.answer) (region-told _ _ _ _ c.in-Ok.ensures c.spelled.ensures)
