-- `cube::call::cube_in` meets its contract.
use mathlib.Core.Path.{sym, ap, ◌∙◌}
use Rattle.format.specs.Told.{Told}
use Rattle.cube.proofs.Calling.{in-refused, in-yes, in-no}
use Rattle.cube.proofs.call.cube_in.Goals as goal

pub returns-in-Err : goal.returns-in-Err
returns-in-Err c = let x = c.args in ap (λ (t : Told). t.answer) (in-refused x.w x.a.now x.b.now _ c.in-Err.ensures)

pub returns-then-lies_in : goal.returns-then-lies_in
returns-then-lies_in c =
    let x = c.args in
    c.yes.ensures
    ∙ ap (λ (t : Told). t.answer) (in-yes x.w x.a.now x.b.now c.in_default.ensures (sym c.if-lies_in.ensures))

pub returns : goal.returns
returns c =
    let x = c.args in
    c.no.ensures
    ∙ ap (λ (t : Told). t.answer) (in-no x.w x.a.now x.b.now c.in_default.ensures (sym c.if-lies_in.ensures))
