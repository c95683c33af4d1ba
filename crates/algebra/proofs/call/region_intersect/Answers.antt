-- `algebra::call::region_intersect` meets its contract.
use mathlib.Core.Path.{sym, ◌∙◌}
use Rattle.format.specs.Calls.{region_intersect}
use Rattle.format.proofs.Reached.{reached}
use Rattle.region.proofs.Onward.{file-read}
use Rattle.algebra.proofs.Calling.{silent-ends, told-ends, file-fault, file-lent, region_intersect-stand, region_intersect-told}
use Rattle.algebra.proofs.call.region_intersect.Goals as goal

pub returns-in-Err : goal.returns-in-Err
unfolding region_intersect
returns-in-Err c = silent-ends c.of_operand.ensures (file-fault c.in-Err.ensures 1 _)

pub returns-in-Err-check_file : goal.returns-in-Err-check_file
unfolding region_intersect
returns-in-Err-check_file c =
    silent-ends c.of_operand-in-Err-check_file.ensures (file-fault c.in-Err-check_file.ensures 2 _ ∙ file-lent (file-read c.in-Ok.ensures) 1 _)

pub returns-then-first-second : goal.returns-then-first-second
unfolding region_intersect
returns-then-first-second c =
    let n = rw (c.in-Ok.ensures.width, c.in-Ok-check_file.ensures.width) at c.if-first-second.true in
    silent-ends c.into.ensures (reached 0 _ n ∙ file-lent (file-read c.in-Ok-check_file.ensures) 2 _ ∙ file-lent (file-read c.in-Ok.ensures) 1 _)

pub invariant_of-task : goal.invariant_of-task
invariant_of-task c =
    let first = c.in-Ok.ensures in
    let second = c.in-Ok-check_file.ensures in
    let one_width = sym first.width ∙ c.if-first-second.false ∙ second.width in
    region_intersect-stand (file-read first) _ _ first.width c.first_at.ensures (file-read second) one_width _ c.first_at-2.ensures

pub returns : goal.returns
returns c =
    let first = c.in-Ok.ensures in
    let second = c.in-Ok-check_file.ensures in
    let one_width = sym first.width ∙ c.if-first-second.false ∙ second.width in
    told-ends c.write_region.ensures (region_intersect-told (file-read first) _ _ first.width c.first_at.ensures (file-read second) one_width _
    c.first_at-2.ensures _)
