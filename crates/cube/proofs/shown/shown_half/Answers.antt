-- `cube::shown::shown_half` meets its contract.
use Rattle.cube.proofs.Showing.{half-right}
use Rattle.cube.proofs.shown.shown_half.Goals as goal

pub returns : goal.returns
returns c = half-right c.args.x c.ranges.x.fits
