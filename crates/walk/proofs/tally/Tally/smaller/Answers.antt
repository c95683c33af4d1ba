-- `walk::tally::Tally::smaller` meets its contract.
use Prim.Native.Nat.{ℕ, ◌+◌, ◌*◌}
use mathlib.Core.Path.{ap, ◌∙◌}
use lib.ListN.{length}
use borrow.Author.Rules.{rules}
use Rattle.model.specs.Cube.{Cube}
use Rattle.model.specs.Ceiling.{ceiling_from, marks, ceiling_over, capped}
use Rattle.format.specs.Bytes.{codes}
use Rattle.walk.specs.Tally.{lost}
use Rattle.walk.proofs.Caps.{least-capped}
use Rattle.walk.proofs.Tallies.{kept-front, tally-over}
use Rattle.walk.proofs.tally.Tally.smaller.Goals as goal

pub returns : goal.returns
returns c cs h =
    let x = c.args in
    let b = codes x.self.base.now in
    let o = c.opened_by in
    let s = o.ensures.0 ∙ ap (λ (u : Cube). marks (lost b u)) (kept-front (length x.self.base.now) x.self.kept) in
    let n = c.raised-over.ensures ∙ ap (λ (n : ℕ). capped (1 + x.self.met * n)) c.power.ensures in
    let least = least-capped (ceiling_from b cs) (ceiling_over b cs) h.nested (tally-over x.self.base.now cs x.self h o.result _ s n) in
    search (rules, least)
