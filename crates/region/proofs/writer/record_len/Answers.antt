-- `region::writer::record_len` meets its contract.
use native.Mathlib.Omega.{arith}
use mathlib.Core.Path.{sym}
use Rattle.format.specs.Records.{front_len}
use Rattle.region.proofs.Writing.{limited-out, cubes-few, record-len}
use Rattle.region.specs.Writing.{record_len}
use Rattle.region.proofs.writer.record_len.Goals as goal

pub overflow_add-result : goal.overflow_add-result
unfolding front_len
overflow_add-result c = let e = c.in-Some.ensures in omega (arith, cubes-few c.args.k c.args.q e.0 e.1, e.2)

pub returns-in-Some : goal.returns-in-Some
returns-in-Some c = let e = c.in-Some.ensures in rw (c.front_len.ensures, e.2) (sym (record-len c.args.k c.args.q e.0 e.1))

pub returns-in-None : goal.returns-in-None
unfolding record_len
returns-in-None c = limited-out c.args.k c.args.q 0 _ c.in-None.ensures
