-- `visits::load::load_cuts` meets its contract. The loop's invariant: the cuts of the first m rows stand there.
use Rattle.visits.specs.Loading.{Loaded}
use Rattle.visits.proofs.load.load_cuts.Given as goal

abbrev pub invariant-loop-m : goal.invariant-loop-m
invariant-loop-m l = Loaded l.cuts.row l.table l.m
