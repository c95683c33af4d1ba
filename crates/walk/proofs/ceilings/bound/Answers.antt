use Prim.Native.Nat.{ℕ}
use native.Mathlib.Omega.{arith}
use mathlib.Core.List.{List}
use mathlib.Core.Path.{ap, sym, ◌∙◌}
use lib.ListN.{length}
use Rattle.std.specs.Borrow.{Bor}
use Rattle.walk.proofs.Slices.{cuts-long, cuts-few}
use Rattle.walk.proofs.Tallies.{counted-none, last-long, counted-turn, counted-all, counted-with, counted-least}
use Rattle.walk.proofs.ceilings.bound.Goals as goal

pub loop-cut-init : goal.loop-cut-init
loop-cut-init c =
    let d = c.args.d in
    let t = c.new-tally.ensures in (
      t.base,
      rw (c.into_iter-cut-iterator.ensures.into_iter_gives, c.rev-cut-items.ensures.source)
          (counted-none (cuts-long d) (omega (arith, t.none, cuts-few d)) t.counts),
    )

pub with-tally-requires : goal.with-tally-requires
with-tally-requires c =
    let (same, counted) = c.loop-cut.invariant in
    let long = (last-long counted _ _ c.in-Some.ensures.steps).0 in
    record { size = ap (λ (b : Bor (List ℕ)). length b.now) same ∙ sym long; few = omega (arith, counted.few) }

pub loop-cut-preserved : goal.loop-cut-preserved
loop-cut-preserved c =
    let (same, counted) = c.loop-cut.invariant in
    let t = c.with-tally.ensures in
    (t.base ∙ same, counted-turn counted _ _ c.in-Some.ensures.steps c.with-tally.result t.few (counted-with same t.counts))

pub returns : goal.returns
returns c =
    let (same, counted) = c.loop-cut.invariant in
    counted-least same c.smaller.ensures _ (counted-all counted c.in-None.ensures.steps.0)
