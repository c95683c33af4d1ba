-- `region::lent::record_refusal` meets its contract.
use Rattle.format.proofs.Lending.{lent-tested}
use Rattle.region.proofs.lent.record_refusal.Goals as goal

pub returns : goal.returns
returns c = lent-tested _ c.args.operand c.alone_fault.result c.of_lent.result c.alone_fault.ensures c.of_lent.ensures
