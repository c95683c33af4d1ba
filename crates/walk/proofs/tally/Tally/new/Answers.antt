-- `walk::tally::Tally::new` meets its contract.
use mathlib.Core.Path.{refl}
use Rattle.format.specs.Limits.{widest_cube}
use Rattle.walk.proofs.Tallies.{tally-begun}
use Rattle.walk.proofs.tally.Tally.new.Goals as goal

pub returns-clause-counts : goal.returns-clause-counts
returns-clause-counts c = tally-begun widest_cube c.args.base.now _ c.requires refl refl refl
