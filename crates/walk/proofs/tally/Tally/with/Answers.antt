-- `walk::tally::Tally::with` meets its contract: what `meets` says is the one test.
use Prim.Native.Nat.{ℕ, ◌+◌, ◌*◌, ◌≤◌}
use native.Mathlib.Omega.{arith}
use mathlib.Core.Path.{refl, sym, ap, ◌∙◌}
use lib.ListN.{length, take, replicate}
use lib.Seq.{length-take-le}
use Rattle.model.specs.Cube.{Cube, meet}
use Rattle.model.specs.Ceiling.{capped}
use Rattle.format.specs.Limits.{widest_cube}
use Rattle.format.specs.Bytes.{codes}
use Rattle.cube.specs.Whole.{cube_of}
use Rattle.walk.proofs.Tallies.{kept-front, tally-apart, tally-met}
use Rattle.walk.proofs.Moved.{met-piece}
use Rattle.walk.proofs.tally.Tally.with.Goals as goal

pub returns-then-not-meets-clause-counts : goal.returns-then-not-meets-clause-counts
returns-then-not-meets-clause-counts c cs h =
    let x = c.args in
    tally-apart x.self.base.now (codes x.cut.now) cs x.self h (sym c.meets.ensures ∙ c.if-not-meets.true)

pub returns-clause-counts : goal.returns-clause-counts
returns-clause-counts c cs g =
    let x = c.args in
    let b = x.self.base.now in
    let q = length b in
    let kept = x.self.kept in
    let front = take q kept in
    let f = ap (λ (n : ℕ). capped (1 + n * x.self.nested)) c.opened_by.ensures.0 in
    let h : q ≤ length kept = omega (arith, x.self.short) in
    let k = met-piece q front x.cut.now (replicate widest_cube 255) (length-take-le q kept h) (sym c.requires.size) x.self.short in
    tally-met b (codes x.cut.now) cs x.self g (sym c.meets.ensures ∙ c.if-not-meets.false) h _ (c.raised.ensures ∙ f) refl
    (ap (cube_of q) c.meet_into.ensures ∙ k ∙ ap (λ (u : Cube). meet u (codes x.cut.now)) (kept-front q kept))
