-- `algebra::call::diff_intersect` meets its contract.
use mathlib.Core.Path.{refl}
use Rattle.format.proofs.Lending.{two-refused}
use Rattle.format.specs.Calls.{diff_intersect}
use Rattle.algebra.proofs.Calling.{silent-ends, told-ends, diff_intersect-stand, diff_intersect-told}
use Rattle.algebra.proofs.call.diff_intersect.Goals as goal

pub returns-in-Err : goal.returns-in-Err
unfolding diff_intersect
returns-in-Err c = let x = c.args in silent-ends refl (two-refused x.w x.s.now x.t.now _ c.in-Err.ensures.0 _ c.in-Err.ensures.1)

pub invariant_of-task : goal.invariant_of-task
invariant_of-task c = let x = c.args in diff_intersect-stand x.w x.s.now x.t.now c.in_default.ensures

pub returns : goal.returns
returns c = let x = c.args in told-ends c.write_region.ensures (diff_intersect-told x.w x.s.now x.t.now c.in_default.ensures _)
