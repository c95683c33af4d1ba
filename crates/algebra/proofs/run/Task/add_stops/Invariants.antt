-- `algebra::run::Task::add_stops` meets its contract. The loop's invariant (`Pairs`): what the stops passed
-- make is added, and the other stops make the rest.
use Rattle.region.specs.Difference.{difference_of}
use Rattle.algebra.specs.Steps.{stops_of}
use Rattle.algebra.proofs.Running.{Pairs}
use Rattle.algebra.proofs.run.Task.add_stops.Given as goal

abbrev pub invariant-loop-stop : goal.invariant-loop-stop
invariant-loop-stop l =
    Pairs l.initial.piece.size (difference_of l.difference) l.self.t.now (stops_of l.initial.stop-iterator) l.initial.out l.initial.sum
    (stops_of l.stop-iterator) l.out l.sum l.piece
