-- `visits::visit::first_met` meets its contract.
use mathlib.Core.Path.{sym, ◌∙◌}
use Rattle.visits.proofs.CutRows.{cut-passed, cut-found}
use Rattle.visits.proofs.visit.first_met.Goals as goal

pub loop-cut-preserved : goal.loop-cut-preserved
loop-cut-preserved c =
    let v = c.loop-cut.invariant in
    cut-passed c.args.cuts _ _ _ _ v.0 v.1 v.2 c.in-Some.ensures (sym c.meets.ensures ∙ c.if-meets.false)

pub returns-then-meets : goal.returns-then-meets
returns-then-meets c =
    let v = c.loop-cut.invariant in
    cut-found c.args.cuts _ _ _ _ v.0 v.1 v.2 c.in-Some.ensures (sym c.meets.ensures ∙ c.if-meets.true)
