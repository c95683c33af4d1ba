-- `walk::record::walk_record` meets its contract.
use Rattle.visits.specs.Cuts.{cubes_of}
use Rattle.walk.proofs.Recorded.{piece-cube}
use Rattle.walk.proofs.record.walk_record.Goals as goal

pub returns : goal.returns
unfolding cubes_of
returns c =
    let d = c.args.d in
    rw (← d.alike) (rw (piece-cube d.cuts.size d.base.now c.piece_of.result d.alike c.piece_of.ensures) at c.visit.ensures)
