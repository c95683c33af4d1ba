-- `visits::load::load_cuts` meets its contract.
use Rattle.visits.proofs.Carrying.{row_more, row-size}
use native.Mathlib.Omega.{arith}
use borrow.Author.Rules.{rules}
use Rattle.visits.proofs.load.load_cuts.Goals as goal

pub load-requires : goal.load-requires
load-requires c = rw c.cut_of.ensures (omega (arith, row-size c.args.cuts.row c.loop-m.m c.loop-m-test.true, c.args.cuts.narrow))

pub loop-m-preserved : goal.loop-m-preserved
loop-m-preserved c =
    row_more c.args.cuts.row c.loop-m.table c.loop-m.m c.load.result (search rules)
    (rw (c.cut_of.ensures, row-size c.args.cuts.row c.loop-m.m c.loop-m-test.true) at c.load.ensures) c.loop-m.invariant
