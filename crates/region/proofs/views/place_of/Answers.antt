-- `region::views::place_of` meets its contract.
use native.Mathlib.Omega.{arith}
use Rattle.region.proofs.Viewed.{view-fault, view-none, view-beyond, view-cube, view-room}
use Rattle.region.proofs.views.place_of.Goals as goal

pub returns-in-Err : goal.returns-in-Err
returns-in-Err c = rw c.of_operand.ensures (view-fault _ _ _ _ c.in-Err.ensures)

pub returns-then-file-d : goal.returns-then-file-d
returns-then-file-d c = rw c.into.ensures (view-none _ _ _ _ c.in-Ok.ensures c.if-file-d.true)

pub returns-then-front-i : goal.returns-then-front-i
returns-then-front-i c =
    rw c.into-then-front-i.ensures (view-beyond _ _ _ _ c.in-Ok.ensures c.if-file-d.false _ c.seek.ensures c.front_at-front.ensures.0 c.if-front-i.true)

pub overflow_mul-result : goal.overflow_mul-result
overflow_mul-result c =
    let x = c.args in
    omega (arith, view-room x.s.now x.d x.i _ c.in-Ok.ensures c.if-file-d.false _ c.seek.ensures c.front_at-front.ensures.0 c.if-front-i.false _ c.cube_len-size.ensures)

pub overflow_add-result : goal.overflow_add-result
overflow_add-result c =
    let x = c.args in
    omega (arith, view-room x.s.now x.d x.i _ c.in-Ok.ensures c.if-file-d.false _ c.seek.ensures c.front_at-front.ensures.0 c.if-front-i.false _ c.cube_len-size.ensures)

pub returns : goal.returns
returns c =
    let x = c.args in
    let size = c.cube_len-size.ensures in
    let room = view-room x.s.now x.d x.i _ c.in-Ok.ensures c.if-file-d.false _ c.seek.ensures c.front_at-front.ensures.0 c.if-front-i.false _ size in
    (rw c.yes.ensures (view-cube x.s.now x.d x.i _ c.in-Ok.ensures c.if-file-d.false _ c.seek.ensures c.front_at-front.ensures.0 c.if-front-i.false _ size), room)
