-- `visits::walk::walk_within` meets its contract.
use Rattle.visits.proofs.Whole.{resumed-fits, resumed-says}
use native.Mathlib.Omega.{arith}
use Rattle.visits.proofs.walk.walk_within.Goals as goal

pub resumed-requires : goal.resumed-requires
resumed-requires c =
    resumed-fits c.args.cuts.row.size _ c.args.a.allowance c.of.result.allowance _ c.visit-r.result c.of.ensures (omega (arith, c.if-a-le-FEW.false))
    c.visit-r.ensures c.in_default.not-Undecided

pub returns-in_default : goal.returns-in_default
returns-in_default c =
    resumed-says c.args.cuts.row.size _ c.args.a.allowance c.of.result.allowance _ c.visit-r.result c.of.ensures (omega (arith, c.if-a-le-FEW.false))
    c.visit-r.ensures
    c.in_default.not-Undecided c.resumed.result c.resumed.ensures
