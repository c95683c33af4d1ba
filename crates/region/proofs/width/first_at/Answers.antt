-- `region::width::first_at` meets its contract.
use Prim.Native.Nat.{ℕ, ◌+◌}
use mathlib.Core.Path.{ap, ◌∙◌}
use Rattle.format.specs.Records.{first_at}
use Rattle.region.proofs.width.first_at.Goals as goal

pub returns : goal.returns
unfolding first_at
returns c = ap (λ (n : ℕ). 2 + n) (c.from.ensures ∙ c.u16_at.ensures)
