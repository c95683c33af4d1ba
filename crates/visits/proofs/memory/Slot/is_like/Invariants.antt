-- `visits::memory::Slot::is_like` meets its contract. The loop's invariant: where `differ` is 0, the first w words of the
-- piece are like the slot's.
use lib.Bits.{bit_or}
use lib.ListN.{get_or}
use mathlib.Core.Path.{◌≡◌}
use Prim.Native.Nat.{ℕ, ◌<◌}
use Rattle.visits.proofs.memory.Slot.is_like.Given as goal

abbrev pub invariant-loop-w : goal.invariant-loop-w
invariant-loop-w l = l.differ ≡ 0 → (v : ℕ) → v < l.w → bit_or (get_or l.near v 0) (get_or l.self.common v 0) ≡ get_or l.self.cube v 0
