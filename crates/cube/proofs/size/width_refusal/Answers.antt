-- `cube::size::width_refusal` meets its contract: each return is a row of its table.
use native.Mathlib.Omega.{arith}
use mathlib.Core.Path.{◌∙◌, sym}
use Rattle.format.proofs.Reached.{reached}
use Rattle.cube.proofs.size.width_refusal.Goals.{then-w-eq0-via-then-w-eq0, then-w-eq0-via-else-w-eq0+then-w-gt-WIDEST}
use Rattle.cube.proofs.size.width_refusal.Goals as goal

pub returns-then-w-eq0 : goal.returns-then-w-eq0
returns-then-w-eq0 c = (
  c.into.ensures ∙ elim c.then-w-eq0.branch [ then-w-eq0-via-then-w-eq0 w ↦ reached 0 _ (omega arith) | then-w-eq0-via-else-w-eq0+then-w-gt-WIDEST w ↦ reached 1 _ (omega arith) ],
  rw c.into.ensures (omega arith),
)

pub returns : goal.returns
returns c = sym (reached 2 _ (omega arith))
