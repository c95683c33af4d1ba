-- `walk::inclusion::Pair::walk_back` meets its contract.
use mathlib.Core.Path.{sym, ap, ◌∙◌}
use Rattle.visits.specs.Cuts.{cubes_of}
use Rattle.format.specs.Bytes.{codes}
use Rattle.model.proofs.Including.{back-met}
use Rattle.visits.specs.Settle.{settle}
use Rattle.region.specs.Difference.{difference_of}
use Rattle.walk.proofs.Restoring.{back-apart}
use Rattle.walk.proofs.inclusion.Pair.walk_back.Goals as goal

pub returns-then-not-meets : goal.returns-then-not-meets
unfolding cubes_of
returns-then-not-meets c =
    let x = c.args in
    back-apart (difference_of x.self.first) (codes x.cut.now) (sym c.meets.ensures ∙ c.if-not-meets.true) x.a

pub returns : goal.returns
unfolding cubes_of
returns c =
    let x = c.args in
    rw (← x.self.first.alike)
    (rw (rw (← x.self.first.alike) at c.met-piece.ensures) at c.visit.ensures
    ∙ ap (settle x.a) (sym (back-met (difference_of x.self.first) (codes x.cut.now) (sym c.meets.ensures ∙ c.if-not-meets.false))))
