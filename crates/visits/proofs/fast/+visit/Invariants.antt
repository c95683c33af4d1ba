-- `visits::fast::+visit` meets its contract, as its own cycle of calls. A turn of the loop is that of the plain visit; what is new is that the cuts met
-- are digits of a word, and that a child's walk may be remembered.
use Rattle.visits.specs.Settle.{left_from}
use Prim.Native.Nat.{◌-◌}
use mathlib.Core.Path.{◌≡◌}
use lib.ListN.{length}
use Rattle.model.specs.Walk.{visit as walked}
use Rattle.visits.specs.Opening.{first_open, FirstOpen}
use Rattle.visits.specs.Words.{cube_of_words, cuts_below}
use Rattle.visits.specs.Alive.{Alive}
use Rattle.visits.specs.Memory.{Memory}
use Rattle.visits.proofs.fast.+visit.Given as goal

abbrev pub invariant-loop-next : goal.invariant-loop-next
invariant-loop-next l =
    (length l.near ≡ 10)
    × FirstOpen (cube_of_words l.near) (cube_of_words l.cut) l.next
    × (left_from (walked (cuts_below l.cuts l.n)) (cube_of_words l.cut) l.initial.have.allowance (cube_of_words l.initial.near)
    ≡ left_from (walked (cuts_below l.cuts l.n)) (cube_of_words l.cut) l.have.allowance (cube_of_words l.near))
    × Alive l.cuts l.n (cube_of_words l.near) l.met
    × Memory l.cuts l.slots

abbrev pub decreases-loop-next : goal.decreases-loop-next
decreases-loop-next l = 320 - first_open (cube_of_words l.near) (cube_of_words l.cut)

abbrev pub decreases-visit : goal.decreases-visit
decreases-visit l = l.n
