-- `walk::bounds::opened_by` meets its contract. The loop's invariant: what is counted and what is still to count make the whole.
use Rattle.std.specs.Iterator.Adapters.{zip_first, zip_second}
use Rattle.std.specs.Slice.Iter.{iter_rest}
use Rattle.walk.proofs.Frees.{Opened}
use Rattle.walk.proofs.bounds.opened_by.Given as goal

abbrev pub invariant-loop-x : goal.invariant-loop-x
invariant-loop-x l = Opened l.base l.cut (iter_rest (zip_first l.x-iterator)) (iter_rest (zip_second l.x-iterator)) l.opened
