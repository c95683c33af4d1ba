-- `cube::code::code_zero` meets its contract.
use mathlib.Core.Path.{ap}
use mathlib.Core.Bool.{not}
use borrow.Author.Rules.{rules}
use Rattle.cube.proofs.Octets.{gaps-solid}
use Rattle.cube.proofs.code.code_zero.Goals as goal

pub returns : goal.returns
returns c = ap not (gaps-solid c.args.b (search rules))
