-- `visits::load::unload` meets its contract. The loop's invariant: the bytes of the first w words are taken out.
use lib.ListN.{length, get_or}
use mathlib.Core.Path.{◌≡◌}
use Prim.Native.Nat.{ℕ, ◌-◌, ◌*◌, ◌/◌, ◌%◌, ◌<◌, ◌^◌}
use Rattle.visits.proofs.load.unload.Given as goal

abbrev pub invariant-loop-w : goal.invariant-loop-w
invariant-loop-w l = (length l.bytes ≡ 80) × ((k : ℕ) → k < 8 * l.w → get_or l.bytes k 0 ≡ get_or l.ws (k / 8) 0 / 2 ^ (56 - 8 * (k % 8)) % 256)
