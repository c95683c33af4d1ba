-- `visits::memory::Slot::new` meets its contract. The loop's invariant: the first w words are filled in, the others are the piece's.
use lib.Bits.{bit_or}
use lib.ListN.{get_or}
use mathlib.Core.Path.{◌≡◌}
use Prim.Native.Nat.{ℕ, ◌≤◌, ◌<◌}
use Rattle.visits.proofs.memory.Slot.new.Given as goal

abbrev pub invariant-loop-w : goal.invariant-loop-w
invariant-loop-w l =
    ((v : ℕ) → v < l.w → get_or l.x-items v 0 ≡ bit_or (get_or l.near v 0) (get_or l.common v 0))
    × ((v : ℕ) → l.w ≤ v → get_or l.x-items v 0 ≡ get_or l.near v 0)
