-- `walk::record::visit` meets its contract.
use native.Mathlib.Omega.{arith}
use mathlib.Core.List.{List}
use mathlib.Core.Path.{◌∙◌, sym, ap}
use Rattle.visits.specs.Cuts.{cubes_of}
use Rattle.model.specs.Cube.{Cube}
use Rattle.model.specs.Walk.{visit}
use Rattle.cube.specs.Whole.{cube_of}
use Rattle.cube.proofs.Rows.{slices-cubes}
use Rattle.visits.specs.Settle.{settle}
use Rattle.visits.proofs.Walked.{walked-settles}
use Rattle.walk.proofs.record.visit.Goals as goal

pub returns : goal.returns
unfolding cubes_of
returns c =
    let x = c.args in
    let cuts = x.cuts in
    c.walk.ensures
    ∙ walked-settles cuts.size x.piece cuts.bytes.now 0 cuts.count x.a (omega (arith, c.requires, cuts.within))
    ∙ ap (λ (cs : List Cube). settle x.a (visit cs (cube_of cuts.size x.piece))) (sym (slices-cubes cuts.size cuts.bytes.now 0 cuts.count))
