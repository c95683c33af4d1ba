-- `visits::load::padded` meets its contract.
use Rattle.visits.proofs.Carrying.{padded-codes}
use mathlib.Core.Path.{refl}
use Rattle.visits.proofs.load.padded.Goals as goal

pub returns : goal.returns
returns c = rw c.copy_from_slice.ensures.after (padded-codes _ c.args.cube.now refl c.requires)
