-- `region::width::width_fault` meets its contract.
use native.Mathlib.Omega.{arith}
use mathlib.Core.Path.{refl}
use Rattle.std.proofs.lemmas.Result.{err_from_is_err_and}
use Rattle.format.specs.Records.{width_rows, width_fault}
use Rattle.format.specs.Limits.{width_kind}
use Rattle.format.proofs.Lending.{frame_refused, frame-clean}
use Rattle.format.proofs.Reached.{rest, reached}
use Rattle.format.proofs.Refusals.{numbered}
use Rattle.region.proofs.width.width_fault.Goals as goal

pub returns-in_err-frame_fault : goal.returns-in_err-frame_fault
unfolding width_fault
returns-in_err-frame_fault c =
    let s = c.args.s.now in
    let e = c.read-record.ensures in
    let p = err_from_is_err_and c.from_residual.result c.from_residual.ensures.1 in
    rw (p.1, p.2) (frame_refused width_kind s 0 _ (rw (e.0, e.1) at c.in_err-frame_fault.ensures) (rest 4 (width_rows s)) (numbered _))

pub returns-then-from-ne-WIDTH_LENGTH : goal.returns-then-from-ne-WIDTH_LENGTH
unfolding width_fault
returns-then-from-ne-WIDTH_LENGTH c =
    let e = c.read-record.ensures in
    reached 4 _ (omega (arith, rw (e.0, e.1) at c.read-record.result.here, frame-clean width_kind c.args.s.now 0 0 (rw (e.0, e.1) at c.in_ok-frame_fault.ensures) refl))

pub returns-then-w-eq0 : goal.returns-then-w-eq0
unfolding width_fault
returns-then-w-eq0 c =
    let e = c.read-record.ensures in
    reached 5 _ (omega (arith, rw (e.0, e.1) at c.read-record.result.here, frame-clean width_kind c.args.s.now 0 0 (rw (e.0, e.1) at c.in_ok-frame_fault.ensures) refl))

pub returns-then-w-gt-WIDEST : goal.returns-then-w-gt-WIDEST
unfolding width_fault
returns-then-w-gt-WIDEST c =
    let e = c.read-record.ensures in
    reached 6 _ (omega (arith, rw (e.0, e.1) at c.read-record.result.here, frame-clean width_kind c.args.s.now 0 0 (rw (e.0, e.1) at c.in_ok-frame_fault.ensures) refl))

pub returns : goal.returns
unfolding width_fault
returns c =
    let e = c.read-record.ensures in
    reached 7 _ (omega (arith, rw (e.0, e.1) at c.read-record.result.here, frame-clean width_kind c.args.s.now 0 0 (rw (e.0, e.1) at c.in_ok-frame_fault.ensures) refl))
