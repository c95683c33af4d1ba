-- `algebra::call::region_less` meets its contract.
use mathlib.Core.Path.{refl}
use Rattle.format.specs.Calls.{region_less}
use Rattle.region.proofs.Onward.{file-read}
use Rattle.algebra.proofs.Calling.{silent-ends, told-ends, file-fault, record-fault, region_less-stand, region_less-told}
use Rattle.algebra.proofs.call.region_less.Goals as goal

pub returns-in-Err : goal.returns-in-Err
unfolding region_less
returns-in-Err c = silent-ends c.of_operand.ensures (file-fault c.in-Err.ensures 1 _)

pub returns-in-Err-record_refusal : goal.returns-in-Err-record_refusal
unfolding region_less
returns-in-Err-record_refusal c =
    let file = c.in-Ok.ensures in
    silent-ends refl (record-fault (file-read file) _ _ file.width refl c.args.t.now _ c.in-Err-record_refusal.ensures _)

pub invariant_of-task : goal.invariant_of-task
invariant_of-task c =
    let file = c.in-Ok.ensures in
    region_less-stand (file-read file) _ _ file.width c.first_at.ensures c.args.t.now c.in_default.ensures _ c.front_at-base.ensures.0.base

pub returns : goal.returns
returns c =
    let file = c.in-Ok.ensures in
    told-ends c.write_region.ensures
    (region_less-told (file-read file) _ _ file.width c.first_at.ensures c.args.t.now c.in_default.ensures _ c.front_at-base.ensures.0.base _)
