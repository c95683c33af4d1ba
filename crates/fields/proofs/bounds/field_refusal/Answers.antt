-- `fields::bounds::field_refusal` meets its contract: each return is a row of its table.
use Prim.Native.Nat.{◌+◌, ◌≤◌}
use native.Mathlib.Omega.{arith}
use mathlib.Core.Path.{◌≡◌, sym, ◌∙◌}
use Rattle.std.proofs.lemmas.Result.{err_from_is_err_and}
use Rattle.answer.specs.Answer.{accepted, refused}
use Rattle.format.specs.Limits.{widest}
use Rattle.format.specs.Rows.{row, last, below, is, outcome}
use Rattle.format.specs.Told.{width_tests}
use Rattle.format.proofs.Reached.{reached}
use Rattle.format.proofs.Lending.{width-lent, tested-refused}
use Rattle.fields.specs.Bounds.{field_tests}
use Rattle.fields.proofs.bounds.field_refusal.Goals.{then-n-eq0-via-then-n-eq0, then-n-eq0-via-else-n-eq0+then-w-n, then-n-eq0-via-else-n-eq0+else-w-n+then-w-n-2}
use Rattle.fields.proofs.bounds.field_refusal.Goals as goal

pub returns-in_err-width_refusal : goal.returns-in_err-width_refusal
returns-in_err-width_refusal c =
    let x = c.args in
    let p = err_from_is_err_and c.from_residual.result c.from_residual.ensures.1 in
    rw (p.1, p.2) (tested-refused (width_tests x.w) (row (is x.n 0) (refused 21) (row (below x.w (x.s + x.n)) (refused 21) (last accepted))) _ (omega arith) c.in_err-width_refusal.ensures)

pub returns-then-n-eq0 : goal.returns-then-n-eq0
returns-then-n-eq0 c =
    let x = c.args in
    let w : (1 ≤ x.w) × (x.w ≤ widest) = width-lent _ _ (sym c.in_ok-width_refusal.ensures) (omega arith) in
    let is : refused 21 ≡ outcome (field_tests x.w x.s x.n) = elim c.then-n-eq0.branch [
      | then-n-eq0-via-then-n-eq0 t ↦ reached 2 _ (omega (arith, w, t.if-n-eq0.true))
      | then-n-eq0-via-else-n-eq0+then-w-n t ↦ reached 3 _ (omega (arith, w, t.if-n-eq0.false, t.if-w-n.true))
      | then-n-eq0-via-else-n-eq0+else-w-n+then-w-n-2 t ↦ reached 3 _ (omega (arith, w, t.if-n-eq0.false, t.if-w-n.false, t.if-w-n-2.true))
    ] in
    (c.into.ensures ∙ is, rw c.into.ensures (omega arith))

pub returns : goal.returns
returns c =
    let w : let w = c.args.w in (1 ≤ w) × (w ≤ widest) = width-lent _ _ (sym c.in_ok-width_refusal.ensures) (omega arith) in
    sym (reached 4 _ (omega (arith, w)))
