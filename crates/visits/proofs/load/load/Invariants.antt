-- `visits::load::load` meets its contract. The loop's invariant: the first w words hold their bytes.
use Rattle.visits.specs.Loading.{HoldsBytes}
use lib.ListN.{length, get_or}
use mathlib.Core.Path.{◌≡◌}
use Prim.Native.Nat.{ℕ, ◌*◌, ◌<◌}
use Rattle.visits.proofs.load.load.Given as goal

abbrev pub invariant-loop-w : goal.invariant-loop-w
invariant-loop-w l = (length l.ws ≡ 10) × ((v : ℕ) → v < l.w → HoldsBytes l.bytes 8 (8 * v) (get_or l.ws v 0))
