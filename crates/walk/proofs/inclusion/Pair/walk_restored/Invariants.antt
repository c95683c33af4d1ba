-- `walk::inclusion::Pair::walk_restored` meets its contract. The loop's invariant: what is left to walk, and the pieces before it are covered.
use lib.ListN.{length}
use Rattle.std.specs.Iterator.Adapters.{enumerate_source, enumerate_count}
use Rattle.cube.specs.Row.{slices_of}
use Rattle.region.specs.Difference.{difference_of}
use Rattle.walk.proofs.Restoring.{CutsLeft}
use Rattle.walk.proofs.inclusion.Pair.walk_restored.Given as goal

abbrev pub invariant-loop-i : goal.invariant-loop-i
invariant-loop-i l =
    CutsLeft (difference_of l.self.first) (length l.self.first.base.now) (difference_of l.self.second).cuts l.initial.left l.left
    (slices_of (enumerate_source l.i-iterator)) (enumerate_count l.i-iterator)
