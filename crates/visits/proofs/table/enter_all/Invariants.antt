-- `visits::table::enter_all` meets its contract. The loop's invariant: the cuts of the first m rows are entered.
use Rattle.visits.proofs.Entering.{EnteredAll}
use Rattle.visits.proofs.table.enter_all.Given as goal

abbrev pub invariant-loop-m : goal.invariant-loop-m
invariant-loop-m l = EnteredAll l.cuts l.m l.against
