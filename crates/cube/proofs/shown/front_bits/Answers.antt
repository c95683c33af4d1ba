-- `cube::shown::front_bits` meets its contract.
use Rattle.cube.proofs.Showing.{mask-right}
use Rattle.cube.proofs.shown.front_bits.Goals as goal

pub returns : goal.returns
returns c = rw (mask-right c.args.b c.args.n c.ranges.b.fits c.requires)
