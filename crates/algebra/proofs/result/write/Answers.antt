-- `algebra::result::write` meets its contract.
use mathlib.Core.Path.{◌≡◌, refl}
use Rattle.std.proofs.Common.{rules, Err}
use Rattle.format.specs.Bytes.{cube_len}
use Rattle.algebra.specs.Totals.{total}
use Rattle.algebra.proofs.Measured.{permits-long, permits-many, permits-short, permits-written}
use Rattle.algebra.proofs.result.write.Goals as goal

pub returns-in_err-sum : goal.returns-in_err-sum
returns-in_err-sum c =
    let back : c.from_residual.result ≡ Err c.in_err-sum.field-0.0 = search rules in
    let x = c.args.task.now in
    permits-long x.width c.args.out.now _ c.run.auto.out (total x.operation (cube_len x.width) x.s.now x.first x.t.now x.start) _ _ back
    c.in_err-sum.ensures.1 c.in_err-sum.ensures.0

pub returns-then-sum-gt-MOST_DIFFERENCES : goal.returns-then-sum-gt-MOST_DIFFERENCES
returns-then-sum-gt-MOST_DIFFERENCES c =
    permits-many c.args.task.now.width c.args.out.now _ c.run.auto.out _ c.in_ok-sum.ensures c.if-sum-gt-MOST_DIFFERENCES.true

pub returns-then-out-size : goal.returns-then-out-size
returns-then-out-size c =
    permits-short c.args.task.now.width c.args.out.now _ c.run.auto.out _ c.in_ok-sum.ensures c.if-sum-gt-MOST_DIFFERENCES.false c.if-out-size.true

pub returns : goal.returns
returns c =
    permits-written c.args.task.now.width c.args.out.now _ c.run.auto.out _ c.in_ok-sum.ensures c.if-sum-gt-MOST_DIFFERENCES.false c.if-out-size.false
    _ _ _ c.put_width.ensures refl c.in_ok-run.ensures
