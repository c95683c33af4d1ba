-- `cube::header::set_after` meets its contract.
use borrow.Author.Rules.{rules}
use Rattle.cube.proofs.Headers.{ones-after}
use Rattle.cube.proofs.header.set_after.Goals as goal

pub returns : goal.returns
returns c = ones-after c.args.used c.args.b (search rules) (search rules)
