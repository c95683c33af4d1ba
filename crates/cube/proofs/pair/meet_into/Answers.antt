use mathlib.Core.Path.{◌∙◌}
use native.Mathlib.Omega.{arith}
use Rattle.cube.proofs.Pairs.{into-turn, into-all}
use Rattle.cube.proofs.pair.meet_into.Goals as goal

pub loop-i-preserved : goal.loop-i-preserved
loop-i-preserved c = into-turn _ _ _ _ c.loop-i.i (omega arith) (omega arith) (omega arith) c.loop-i.invariant

pub returns : goal.returns
returns c = let x = c.args in c.loop-i.invariant ∙ into-all x.a.now x.b.now x.out.now c.loop-i.i (omega arith)
