-- `walk::inclusion::met` meets its contract.
use native.Mathlib.Omega.{arith}
use mathlib.Core.Path.{refl, sym, ap, ◌∙◌}
use lib.ListN.{length, replicate}
use Rattle.format.specs.Limits.{widest_cube}
use Rattle.cube.specs.Whole.{cube_of}
use Rattle.walk.proofs.Moved.{met-piece}
use Rattle.walk.proofs.inclusion.met.Goals as goal

pub returns : goal.returns
returns c =
    let a = c.args.base.now in
    ap (cube_of (length a)) c.meet_into.ensures
    ∙ met-piece (length a) a c.args.cut.now (replicate widest_cube 255) refl (sym c.requires.0) (omega (arith, c.requires.1))
