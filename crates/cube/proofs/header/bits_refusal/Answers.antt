-- `cube::header::bits_refusal` meets its contract: each return is a row of its table.
use native.Mathlib.Omega.{arith}
use mathlib.Core.Path.{sym, ◌∙◌}
use Rattle.format.proofs.Reached.{reached}
use Rattle.cube.proofs.header.bits_refusal.Goals.{then-bs-header_len-via-then-bs-header_len, then-bs-header_len-via-else-bs-header_len+then-bits_after}
use Rattle.cube.proofs.header.bits_refusal.Goals as goal

pub returns-then-bs-header_len : goal.returns-then-bs-header_len
returns-then-bs-header_len c = (
  c.into.ensures
      ∙ elim c.then-bs-header_len.branch [
        | then-bs-header_len-via-then-bs-header_len w ↦ reached 0 _ (λ e. w.if-bs-header_len.true (e ∙ sym c.header_len.ensures))
        | then-bs-header_len-via-else-bs-header_len+then-bits_after w ↦
            reached 1 _ (w.if-bs-header_len.false ∙ c.header_len.ensures, sym w.bits_after.ensures ∙ w.if-bits_after.true)
      ],
  rw c.into.ensures (omega arith),
)

pub returns : goal.returns
returns c = sym (reached 2 _ (c.if-bs-header_len.false ∙ c.header_len.ensures, (sym c.bits_after.ensures ∙ c.if-bits_after.false, tt)))
