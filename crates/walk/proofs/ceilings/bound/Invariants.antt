-- `walk::ceilings::bound` meets its contract. The loop's invariant: the cuts behind those that are left are counted.
use mathlib.Core.Path.{◌≡◌}
use Rattle.std.specs.Iterator.Adapters.{rev_source}
use Rattle.cube.specs.Row.{slices_of}
use Rattle.walk.proofs.Tallies.{Counted}
use Rattle.walk.proofs.ceilings.bound.Given as goal

abbrev pub invariant-loop-cut : goal.invariant-loop-cut
invariant-loop-cut l = (l.tally.base ≡ l.d.base) × Counted l.d.base.now (slices_of l.d.cuts) (slices_of (rev_source l.cut-iterator)) l.tally
