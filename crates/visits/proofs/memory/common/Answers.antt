use Rattle.visits.proofs.Meeting.{alive-top}
use Rattle.visits.proofs.Slots.{common-turn, common-end}
use mathlib.Core.Logic.{inl}
use native.Mathlib.Omega.{arith}
use borrow.Author.Rules.{rules}
use Rattle.visits.proofs.memory.common.Goals as goal

pub loop-x-init : goal.loop-x-init
loop-x-init c = (search rules, search rules, λ j h d. inl d)

pub bounds-cuts-j : goal.bounds-cuts-j
bounds-cuts-j c = alive-top _ _ _ c.loop-x.invariant.1 c.top-j.ensures.2

pub loop-x-preserved : goal.loop-x-preserved
loop-x-preserved c =
    let g = c.args in (
      omega (arith, c.after_top-x.ensures, c.loop-x.invariant.0),
      omega (arith, c.after_top-x.ensures, c.loop-x.invariant.1),
      common-turn g.cuts.now g.alive c.loop-x.x _ c.top-j.result c.loop-x.m _ c.top-j.ensures.1 c.top-j.ensures.2 c.after_top-x.ensures
          c.meet.ensures c.loop-x.invariant.2,
    )

pub returns : goal.returns
returns c = common-end c.args.cuts.now c.args.alive c.loop-x.x c.loop-x.m (search rules) c.loop-x.invariant.2
