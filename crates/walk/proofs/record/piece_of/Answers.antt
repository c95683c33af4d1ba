-- `walk::record::piece_of` meets its contract.
use native.Mathlib.Omega.{arith}
use mathlib.Core.Path.{refl, ap, ◌∙◌}
use lib.ListN.{length, take, replicate}
use Rattle.format.specs.Limits.{widest_cube}
use Rattle.cube.proofs.Laying.{put-front}
use Rattle.walk.proofs.record.piece_of.Goals as goal

pub returns : goal.returns
returns c =
    let cube = c.args.cube.now in
    ap (take (length cube)) c.put.ensures ∙ put-front (replicate widest_cube 255) cube (length cube) refl (omega (arith, c.requires))
