-- `cube::call::cube_refusal` meets its contract.
use Rattle.format.proofs.Lending.{lent-tested}
use Rattle.cube.proofs.call.cube_refusal.Goals as goal

pub returns : goal.returns
returns c = lent-tested _ c.args.operand c.lent_fault.result c.of_lent.result c.lent_fault.ensures c.of_lent.ensures
