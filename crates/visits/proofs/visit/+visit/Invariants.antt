-- `visits::visit::+visit` meets its contract, as its own cycle of calls. The measure is the number of cuts left. The
-- loop's invariant: the whole visit is what is left of it with the allowance and the piece as they are, and `next` is the
-- first position that the cut opens.
use Prim.Native.Nat.{◌-◌, ◌*◌}
use mathlib.Core.Path.{◌≡◌}
use lib.ListN.{length}
use Rattle.model.specs.Walk.{visit as visits}
use Rattle.format.specs.Bytes.{codes}
use Rattle.cube.specs.Whole.{cube_of}
use Rattle.visits.specs.Cuts.{cubes_of}
use Rattle.visits.specs.Opening.{first_open, FirstOpen}
use Rattle.visits.specs.Settle.{left_from}
use Rattle.visits.proofs.visit.+visit.Given as goal

abbrev pub invariant-loop-next : goal.invariant-loop-next
invariant-loop-next l =
    (length l.near ≡ 80)
    × FirstOpen (cube_of l.q l.near) (codes l.cut) l.next
    × (left_from (visits (cubes_of l.rest)) (codes l.cut) l.initial.have.allowance (cube_of l.q l.initial.near) ≡ left_from
    (visits (cubes_of l.rest)) (codes l.cut) l.have.allowance (cube_of l.q l.near))

abbrev pub decreases-loop-next : goal.decreases-loop-next
decreases-loop-next l = 4 * l.q - first_open (cube_of l.q l.near) (codes l.cut)

abbrev pub decreases-visit : goal.decreases-visit
decreases-visit l = l.cuts.row.count
