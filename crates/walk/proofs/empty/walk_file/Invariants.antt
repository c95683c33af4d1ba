-- `walk::empty::walk_file` meets its contract. The loop's invariant: what is left to walk, and the differences before it are covered.
use Rattle.walk.proofs.Emptied.{FileLeft}
use Rattle.walk.proofs.empty.walk_file.Given as goal

abbrev pub invariant-loop-i : goal.invariant-loop-i
invariant-loop-i l = FileLeft l.s l.initial.left l.left l.at l.i l.i-end
