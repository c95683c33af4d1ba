-- `algebra::call::diff_less` meets its contract.
use mathlib.Core.Path.{refl}
use Rattle.format.proofs.Lending.{two-refused}
use Rattle.format.specs.Calls.{diff_less}
use Rattle.algebra.proofs.Calling.{silent-ends, told-ends, diff_less-stand, diff_less-told}
use Rattle.algebra.proofs.call.diff_less.Goals as goal

pub returns-in-Err : goal.returns-in-Err
unfolding diff_less
returns-in-Err c = let x = c.args in silent-ends refl (two-refused x.w x.s.now x.t.now _ c.in-Err.ensures.0 _ c.in-Err.ensures.1)

pub invariant_of-task : goal.invariant_of-task
invariant_of-task c = let x = c.args in diff_less-stand x.w x.s.now x.t.now c.in_default.ensures _ c.front_at-base.ensures.0.base

pub returns : goal.returns
returns c = let x = c.args in told-ends c.write_region.ensures (diff_less-told x.w x.s.now x.t.now c.in_default.ensures _ c.front_at-base.ensures.0.base _)
