-- `cube::call::pair_refusal` meets its contract: a width's refusal comes first, and then that of each cube.
use native.Mathlib.Omega.{arith}
use Rattle.std.specs.Prelude.{Err}
use Rattle.std.proofs.lemmas.Result.{err_from_is_err_and}
use Rattle.format.specs.Told.{width_tests, cube_tests}
use Rattle.format.specs.Rows.{then}
use Rattle.format.proofs.Lending.{tested-refused, tested-passed}
use Rattle.cube.proofs.call.pair_refusal.Goals as goal

pub returns-in_err-width_refusal : goal.returns-in_err-width_refusal
returns-in_err-width_refusal c =
    let x = c.args in
    let p = err_from_is_err_and c.from_residual.result c.from_residual.ensures.1 in
    rw (p.1, p.2) (tested-refused (width_tests x.w) (then (cube_tests x.w x.a.now 1) (cube_tests x.w x.b.now 2)) _ (omega arith) c.in_err-width_refusal.ensures)

pub returns-in_err-cube_refusal : goal.returns-in_err-cube_refusal
returns-in_err-cube_refusal c =
    let x = c.args in
    let p = err_from_is_err_and c.from_residual-in_err-cube_refusal.result c.from_residual-in_err-cube_refusal.ensures.1 in
    rw (p.1, p.2) (tested-passed (width_tests x.w) (then (cube_tests x.w x.a.now 1) (cube_tests x.w x.b.now 2)) (Err c.in_err-cube_refusal.field-0.0) (omega arith) c.in_ok-width_refusal.ensures
    (tested-refused (cube_tests x.w x.a.now 1) (cube_tests x.w x.b.now 2) _ (omega arith) c.in_err-cube_refusal.ensures))

pub returns : goal.returns
returns c =
    let x = c.args in
    tested-passed (width_tests x.w) (then (cube_tests x.w x.a.now 1) (cube_tests x.w x.b.now 2)) _ (omega arith) c.in_ok-width_refusal.ensures
    (tested-passed (cube_tests x.w x.a.now 1) (cube_tests x.w x.b.now 2) _ (omega arith) c.in_ok-cube_refusal.ensures c.cube_refusal-2.ensures)
