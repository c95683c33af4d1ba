use native.Mathlib.Omega.{arith}
use Rattle.cube.proofs.Spelling.{spelt-start, spelt-turn, spelt-end}
use Rattle.cube.proofs.header.spelled.Goals as goal

pub loop-i-init : goal.loop-i-init
loop-i-init c = spelt-start c.args.h.now

pub loop-i-preserved : goal.loop-i-preserved
loop-i-preserved c =
    let l = c.loop-i in
    spelt-turn c.args.h.now l.c l.i _ _ (omega arith) (omega arith) (omega arith) c.spell.ensures c.spell-in-loop-i.ensures l.invariant

pub returns : goal.returns
returns c = let l = c.loop-i in spelt-end c.args.h.now l.c l.i (omega arith) l.invariant
