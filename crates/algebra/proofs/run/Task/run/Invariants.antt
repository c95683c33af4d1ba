-- `algebra::run::Task::run` meets its contract. The loop's invariant (`Records`): what the records passed
-- make is counted and written, and the other records make the rest.
use Rattle.format.specs.Bytes.{cube_len}
use Rattle.algebra.specs.Steps.{fronts_of}
use Rattle.algebra.specs.Totals.{total}
use Rattle.algebra.proofs.Running.{Records}
use Rattle.algebra.proofs.run.Task.run.Given as goal

abbrev pub invariant-loop-front : goal.invariant-loop-front
invariant-loop-front l =
    let x = l.self in
    let q = cube_len x.width in
    Records x.operation q x.s.now x.t.now x.start (total x.operation q x.s.now x.first x.t.now x.start) l.initial.out (fronts_of l.front-iterator)
    l.out l.sum l.piece
