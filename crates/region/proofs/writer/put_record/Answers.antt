-- `region::writer::put_record` meets its contract.
use native.Mathlib.Omega.{arith}
use Rattle.format.specs.Records.{front_len}
use Rattle.region.proofs.Writing.{limited-out, cubes-few, record-few, record-short, record-done}
use Rattle.region.specs.Writing.{put_record}
use Rattle.region.proofs.writer.put_record.Goals as goal
use Rattle.region.proofs.writer.put_record.Goals.{then-cubes-n-via-then-cubes-n, then-cubes-n-via-else-cubes-n+then-out-from}

pub returns-in_default : goal.returns-in_default
unfolding put_record
returns-in_default c = limited-out c.args.k c.args.q _ _ c.in_default.ensures

pub overflow_add-from : goal.overflow_add-from
unfolding front_len
overflow_add-from c = let e = c.in-Some.ensures in omega (arith, cubes-few c.args.k c.args.q e.0 e.1, e.2)

pub returns-then-cubes-n : goal.returns-then-cubes-n
returns-then-cubes-n c =
    let x = c.args in
    let e = c.in-Some.ensures in
    elim c.then-cubes-n.branch [
      | then-cubes-n-via-then-cubes-n w ↦ record-few x.k x.q e.0 e.1 x.out.now x.cubes.now (rw e.2 at w.if-cubes-n.true)
      | then-cubes-n-via-else-cubes-n+then-out-from w ↦
          record-short x.k x.q e.0 e.1 x.out.now x.cubes.now (rw e.2 at w.if-cubes-n.false) (rw (c.front_len-from.ensures, e.2) at w.if-out-from.true)
    ]

pub returns : goal.returns
returns c =
    let x = c.args in
    let e = c.in-Some.ensures in
    record-done x.k x.q e.0 e.1 x.out.now x.cubes.now (rw e.2 at c.if-cubes-n.false) (rw (c.front_len-from.ensures, e.2) at c.if-out-from.false) _ _
    c.put_front.ensures (rw (c.front_len-from.ensures, e.2) at c.put.ensures)
