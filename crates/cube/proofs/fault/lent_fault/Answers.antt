-- `cube::fault::lent_fault` meets its contract.
use mathlib.Core.Path.{sym, ◌∙◌}
use Rattle.cube.proofs.Faults.{lent_length, lent-cube}
use Rattle.cube.proofs.fault.lent_fault.Goals as goal

pub returns-then-c-cube_len : goal.returns-then-c-cube_len
returns-then-c-cube_len c = lent_length _ _ (λ e. c.if-c-cube_len.true (e ∙ sym c.before.cube_len.ensures))

pub returns : goal.returns
returns c =
    c.cube_fault.ensures ∙ lent-cube _ _ (c.before.if-c-cube_len.false ∙ c.before.before.cube_len.ensures)
