-- `region::record::record_fault` meets its contract.
use Prim.Native.Nat.{◌+◌}
use native.Mathlib.Omega.{arith}
use Rattle.std.proofs.lemmas.Result.{err_from_is_err_and}
use Rattle.format.specs.Rows.{last}
use Rattle.format.specs.Records.{base_at, count_at, cubes_fault, difference_fault}
use Rattle.format.proofs.Lending.{numbers-refused}
use Rattle.format.proofs.Refusals.{numbered}
use Rattle.region.proofs.Cubing.{front-few, front-row, front-faults}
use Rattle.region.proofs.record.record_fault.Goals as goal

pub returns-in_err-numbers_fault : goal.returns-in_err-numbers_fault
unfolding difference_fault
returns-in_err-numbers_fault c =
    let x = c.args in let r = x.record in
    let p = err_from_is_err_and c.from_residual.result c.from_residual.ensures.1 in
    rw (p.1, p.2)
    (numbers-refused x.alone x.w x.n r.bytes.now r.at _ c.in_err-numbers_fault.ensures
    (last (cubes_fault x.w r.bytes.now (base_at r.bytes.now r.at) (count_at r.bytes.now r.at + 1))) (numbered _))

pub overflow_add-cubes : goal.overflow_add-cubes
overflow_add-cubes c =
    let x = c.args in let r = x.record in
    omega (arith, front-few x.alone x.w x.n r.bytes.now r.at r.here c.in_ok-numbers_fault.ensures)

pub invariant_of-cubes : goal.invariant_of-cubes
invariant_of-cubes c =
    let x = c.args in let r = x.record in
    record { within = front-row x.alone x.w x.n r.bytes.now r.at r.here c.in_ok-numbers_fault.ensures _ c.cube_len.ensures }

pub returns : goal.returns
returns c =
    let x = c.args in let r = x.record in
    front-faults x.alone x.w x.n r.bytes.now r.at r.here c.in_ok-numbers_fault.ensures _ _ c.cube_len.ensures c.cubes_fault.ensures
