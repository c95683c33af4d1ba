-- `visits::visit::first_met` meets its contract. The loop's invariant: the visit with the cuts left is that with all.
use Prim.Native.Nat.{◌≤◌}
use mathlib.Core.Path.{◌≡◌}
use Rattle.model.specs.Walk.{visit}
use Rattle.format.specs.Bytes.{codes}
use Rattle.visits.specs.Cuts.{cubes_of}
use Rattle.visits.proofs.visit.first_met.Given as goal

abbrev pub invariant-loop-cut : goal.invariant-loop-cut
invariant-loop-cut l =
    (l.rest.size ≡ l.cuts.size) × (l.rest.count ≤ l.cuts.count) × (visit (cubes_of l.cuts) (codes l.piece) ≡ visit (cubes_of l.rest) (codes l.piece))

abbrev pub decreases-loop-cut : goal.decreases-loop-cut
decreases-loop-cut l = l.rest.count
