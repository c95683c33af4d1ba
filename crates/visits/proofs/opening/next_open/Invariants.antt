-- `visits::opening::next_open` meets its contract. The loop's invariant: no value before b has a place that opens.
use Rattle.visits.specs.Places.{Passed}
use Rattle.visits.proofs.opening.next_open.Given as goal

abbrev pub invariant-loop-b : goal.invariant-loop-b
invariant-loop-b g l = let t = g.T.Places in Passed t.PLACES t.cube l.near l.cut l.b
