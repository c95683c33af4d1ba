-- `cube::shown::shown_byte` meets its contract.
use Rattle.cube.proofs.Showing.{byte-right}
use Rattle.cube.proofs.shown.shown_byte.Goals as goal

pub returns : goal.returns
returns c = byte-right c.before.before.args.x c.before.before.args.y _ _ c.before.shown_half.ensures.0 c.shown_half-2.ensures.0
