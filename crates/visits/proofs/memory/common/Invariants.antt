-- `visits::memory::common` meets its contract. The loop's invariant: m lies in each of the cuts `alive` that has no
-- digit in x any more.
use Rattle.visits.specs.Memory.{Lies}
use Rattle.visits.specs.Alive.{digit}
use Rattle.visits.specs.Words.{row_cube}
use lib.ListN.{length}
use mathlib.Core.Logic.{◌⊎◌}
use mathlib.Core.Path.{◌≡◌}
use Prim.Native.Nat.{ℕ, ◌<◌, ◌^◌}
use Rattle.visits.proofs.memory.common.Given as goal

abbrev pub invariant-loop-x : goal.invariant-loop-x
invariant-loop-x l =
    (l.x < 2 ^ 64) × (l.x < 2 ^ length l.cuts) × ((j : ℕ) → j < 64 → digit j l.alive ≡ 1 → (digit j l.x ≡ 1) ⊎ Lies l.m (row_cube l.cuts j))

abbrev pub decreases-loop-x : goal.decreases-loop-x
decreases-loop-x l = l.x
