-- `cube::call::wider` meets its contract: the very references come back.
use mathlib.Core.Path.{refl, sym}
use Rattle.cube.proofs.Calling.{wider-refused, wider-first, wider-second, wider-neither, is-first, is-second, is-neither}
use Rattle.cube.proofs.call.wider.Goals as goal

pub returns-in_default : goal.returns-in_default
returns-in_default c = let x = c.args in is-neither x.w x.a x.b _ refl refl (wider-refused x.w x.a.now x.b.now _ c.in_default.ensures)

pub returns-then-lies_in : goal.returns-then-lies_in
returns-then-lies_in c =
    let x = c.args in
    is-first x.w x.a x.b (wider-first x.w x.a.now x.b.now c.in-Ok.ensures (sym c.if-lies_in.ensures))

pub returns-then-lies_in-2 : goal.returns-then-lies_in-2
returns-then-lies_in-2 c =
    let x = c.args in
    is-second x.w x.a x.b
    (wider-second x.w x.a.now x.b.now c.in-Ok.ensures (sym c.if-lies_in.ensures) (sym c.if-lies_in-2.ensures))

pub returns : goal.returns
returns c =
    let x = c.args in
    is-neither x.w x.a x.b _ refl refl
    (wider-neither x.w x.a.now x.b.now c.in-Ok.ensures (sym c.if-lies_in.ensures) (sym c.if-lies_in-2.ensures))
