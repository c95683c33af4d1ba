-- `visits::table::enter_all` meets its contract.
use Rattle.visits.proofs.Entering.{entered-more}
use Rattle.visits.specs.Words.{row_cube}
use borrow.Author.Rules.{rules}
use Rattle.visits.proofs.table.enter_all.Goals as goal

pub loop-m-preserved : goal.loop-m-preserved
unfolding row_cube
loop-m-preserved c =
    entered-more c.args.cuts.now c.loop-m.m c.loop-m.against _ _ c.digit_of.ensures (search rules) c.enter.ensures c.loop-m.invariant
