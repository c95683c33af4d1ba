-- `visits::table::enter` meets its contract. The loop's invariant: `near` has the cut's code at the positions passed
-- and is free elsewhere, and the cut is entered at these positions.
use Rattle.visits.specs.Loading.{Entered}
use Rattle.visits.specs.Words.{cube_of_words}
use Rattle.visits.specs.Opening.{first_open, FirstOpen}
use Rattle.visits.proofs.Entering.{Agrees}
use lib.ListN.{length}
use mathlib.Core.Path.{◌≡◌}
use Prim.Native.Nat.{◌-◌}
use Rattle.visits.proofs.table.enter.Given as goal

abbrev pub invariant-loop-next : goal.invariant-loop-next
invariant-loop-next l =
    (length l.near ≡ 10) × FirstOpen (cube_of_words l.near) (cube_of_words l.cut) l.next × Entered l.initial.against (cube_of_words l.near) l.one l.against
    × Agrees (cube_of_words l.near) (cube_of_words l.cut)

abbrev pub decreases-loop-next : goal.decreases-loop-next
decreases-loop-next l = 320 - first_open (cube_of_words l.near) (cube_of_words l.cut)
