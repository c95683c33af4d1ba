-- `walk::bounds::power` meets its contract.
use mathlib.Core.Path.{◌∙◌}
use Rattle.walk.proofs.Caps.{capped-power}
use Rattle.walk.proofs.bounds.power.Goals as goal

pub returns : goal.returns
returns c = c.unwrap_or.ensures ∙ capped-power c.args.s c.checked_shl.result c.checked_shl.ensures
