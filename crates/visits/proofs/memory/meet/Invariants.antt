-- `visits::memory::meet` meets its contract. The loop's invariant: the first w words are met, the others as they were.
use lib.Bits.{bit_and}
use lib.ListN.{get_or}
use mathlib.Core.Path.{◌≡◌}
use Prim.Native.Nat.{ℕ, ◌≤◌, ◌<◌}
use Rattle.visits.proofs.memory.meet.Given as goal

abbrev pub invariant-loop-w : goal.invariant-loop-w
invariant-loop-w l =
    ((v : ℕ) → v < l.w → get_or l.a v 0 ≡ bit_and (get_or l.initial.a v 0) (get_or l.b v 0)) × ((v : ℕ) → l.w ≤ v → get_or l.a v 0 ≡ get_or l.initial.a v 0)
