-- `cube::call::wider_number` meets its contract.
use mathlib.Core.Path.{sym, ap, ◌∙◌}
use Rattle.format.specs.Told.{Told}
use Rattle.cube.proofs.Calling.{number-refused, number-first, number-second, number-neither}
use Rattle.cube.proofs.call.wider_number.Goals.{then-lies_in-via-then-lies_in, then-lies_in-via-else-lies_in+then-lies_in-2}
use Rattle.cube.proofs.call.wider_number.Goals as goal

pub returns-in-Err : goal.returns-in-Err
returns-in-Err c = let x = c.args in ap (λ (t : Told). t.answer) (number-refused x.w x.a.now x.b.now _ c.in-Err.ensures)

pub returns-then-lies_in : goal.returns-then-lies_in
returns-then-lies_in c =
    let x = c.args in
    c.yes.ensures
    ∙ ap (λ (t : Told). t.answer)
    (elim c.then-lies_in.branch [
      | then-lies_in-via-then-lies_in w ↦ number-first x.w x.a.now x.b.now c.in_default.ensures (sym w.if-lies_in.ensures)
      | then-lies_in-via-else-lies_in+then-lies_in-2 w ↦ number-second x.w x.a.now x.b.now c.in_default.ensures (sym w.if-lies_in-2.ensures)
    ])

pub returns : goal.returns
returns c =
    let x = c.args in
    c.no.ensures
    ∙ ap (λ (t : Told). t.answer) (number-neither x.w x.a.now x.b.now c.in_default.ensures (sym c.if-lies_in.ensures) (sym c.if-lies_in-2.ensures))
