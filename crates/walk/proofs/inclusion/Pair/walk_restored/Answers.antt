use native.Mathlib.Omega.{arith}
use mathlib.Core.Path.{sym, subst}
use mathlib.Core.Logic.{inl}
use mathlib.Core.List.{map}
use lib.ListN.{length}
use Prim.Native.Nat.{ℕ}
use Rattle.model.specs.Walk.{walk_back}
use Rattle.region.specs.Difference.{difference_of}
use Rattle.cube.specs.Row.{slices_of}
use Rattle.walk.proofs.Slices.{AllLong, cuts-long, cuts-few}
use Rattle.walk.proofs.Ended.{ended-passed}
use Rattle.walk.proofs.Restoring.{cuts-begun, cuts-turn, cuts-stop, cuts-ended}
use Rattle.walk.proofs.inclusion.Pair.walk_restored.Goals as goal

pub loop-i-init-derived : goal.loop-i-init-derived
loop-i-init-derived c =
    let e = c.enumerate-i-items.ensures in
    ((tt, tt, inl (rw (c.into_iter-i-iterator.ensures.into_iter_gives, e.source, e.count) (omega (arith, cuts-few c.args.self.second)))), tt)

pub loop-i-init : goal.loop-i-init
loop-i-init c =
    let t = c.args.self.second in
    let e = c.enumerate-i-items.ensures in
    rw (c.into_iter-i-iterator.ensures.into_iter_gives, e.source, e.count)
    (cuts-begun (subst (λ (n : ℕ). AllLong n (slices_of t.cuts)) (sym c.args.self.alike) (cuts-long t)) (cuts-few t) c.requires)

pub returns-in_err-left : goal.returns-in_err-left
returns-in_err-left c =
    let x = c.in_err-left.field-0.0 in
    let steps = c.in-Some.ensures.steps in
    let v = c.walk_back in
    let a = c.args in
    ended-passed (length a.self.first.base.now) a.a 1 (map (walk_back (difference_of a.self.first)) (difference_of a.self.second).cuts) x
    c.from_residual.result c.from_residual.ensures.1
    (cuts-stop c.loop-i.invariant _ _ steps.0 v.result v.ensures x (rw steps.1 at c.in_err-left.ensures))

pub loop-i-preserved : goal.loop-i-preserved
loop-i-preserved c =
    let steps = c.in-Some.ensures.steps in
    let v = c.walk_back in
    rw steps.2 (cuts-turn c.loop-i.invariant _ _ steps.0 v.result v.ensures c.in_ok-left.left c.in_ok-left.ensures)

pub returns : goal.returns
returns c = cuts-ended c.loop-i.invariant c.in-None.ensures.steps.0.0
