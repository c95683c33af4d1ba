-- `algebra::call::region_tidy` meets its contract.
use Rattle.format.specs.Calls.{region_tidy}
use Rattle.region.proofs.Onward.{file-read}
use Rattle.algebra.proofs.Calling.{silent-ends, told-ends, file-fault, region_tidy-stand, region_tidy-told}
use Rattle.algebra.proofs.call.region_tidy.Goals as goal

pub returns-in-Err : goal.returns-in-Err
unfolding region_tidy
returns-in-Err c = silent-ends c.of_operand.ensures (file-fault c.in-Err.ensures 1 _)

pub invariant_of-task : goal.invariant_of-task
invariant_of-task c = let file = c.in-Ok.ensures in region_tidy-stand (file-read file) _ _ file.width c.first_at.ensures

pub returns : goal.returns
returns c = let file = c.in-Ok.ensures in told-ends c.write_region.ensures (region_tidy-told (file-read file) _ _ file.width c.first_at.ensures _)
