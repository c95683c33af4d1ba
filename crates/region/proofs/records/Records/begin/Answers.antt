-- `region::records::Records::begin` meets its contract.
use mathlib.Core.Path.{refl, sym}
use Rattle.format.proofs.Filing.{width-of}
use Rattle.region.proofs.Reading.{begun, width-refused}
use Rattle.region.proofs.records.Records.begin.Goals as goal

pub returns-in-Err : goal.returns-in-Err
returns-in-Err c = width-refused c.args.file.now _ c.in-Err.ensures refl c.width_of-width.ensures

pub invariant_of-result : goal.invariant_of-result
invariant_of-result c =
    record { states = c.width_of-width.ensures; narrow = rw c.width_of-width.ensures (width-of c.args.file.now (sym c.in_default.ensures)).narrow; reached = rw c.first_at.ensures (begun c.args.file.now (sym c.in_default.ensures)) }
