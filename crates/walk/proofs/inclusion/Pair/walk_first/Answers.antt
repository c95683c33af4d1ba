-- `walk::inclusion::Pair::walk_first` meets its contract.
use Rattle.visits.specs.Cuts.{cubes_of}
use Rattle.walk.proofs.Recorded.{piece-cube}
use Rattle.walk.proofs.inclusion.Pair.walk_first.Goals as goal

pub returns : goal.returns
unfolding cubes_of
returns c =
    let s = c.args.self.first in
    rw (← s.alike)
    (rw (rw (← s.alike) at c.gathered-all.ensures, piece-cube s.cuts.size s.base.now c.piece_of.result s.alike c.piece_of.ensures) at c.visit.ensures)
