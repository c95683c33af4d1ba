-- `walk::empty::diff_empty` meets its contract.
use native.Mathlib.Omega.{arith}
use mathlib.Core.Path.{refl, sym}
use lib.ListN.{length}
use Rattle.model.specs.Walk.{walk}
use Rattle.answer.specs.Answer.{accepted}
use Rattle.format.proofs.Lending.{one-refused, one_lent, silent-answer, silent-bytes, told-answer, told-bytes}
use Rattle.format.specs.Calls.{diff_empty}
use Rattle.format.specs.Told.{silent, walking}
use Rattle.format.specs.Records.{difference_at}
use Rattle.walk.proofs.Emptied.{diff-room, diff-told}
use Rattle.walk.proofs.empty.diff_empty.Goals as goal

pub returns-in-Err : goal.returns-in-Err
unfolding diff_empty
returns-in-Err c =
    let x = c.args in
    let k = walking x.w x.allowance (length x.out.now) 0 (walk (difference_at x.w x.s.now 0)) in
    let is = one-refused x.w x.s.now _ c.in-Err.ensures.0 silent k c.in-Err.ensures.1 in
    record { answer = silent-answer refl is; bytes = silent-bytes is }

pub returns-then-out-header_len : goal.returns-then-out-header_len
returns-then-out-header_len c =
    let x = c.args in
    let is = diff-room x.w x.s.now x.allowance (length x.out.now) c.in-Ok.ensures.0 (omega (arith, c.if-out-header_len.true, c.header_len.ensures)) in
    record { answer = silent-answer c.into.ensures is; bytes = silent-bytes is }

pub tell-requires : goal.tell-requires
tell-requires c =
    let lent = c.in-Ok.ensures in
    ((one_lent c.args.w c.args.s.now accepted (sym lent.0) refl).narrow, omega (arith, c.if-out-header_len.false, c.header_len.ensures))

pub returns : goal.returns
returns c =
    let x = c.args in
    let v = c.walk_record-outcome in
    let lent = c.in-Ok.ensures in
    let is = diff-told x.w x.s.now x.allowance (length x.out.now) lent.0 (omega (arith, c.if-out-header_len.false, c.header_len.ensures)) lent.1
    v.result c.covered.result c.covered.ensures (rw (lent.1.size, c.fresh.ensures.0) at v.ensures) in
    record { answer = told-answer is c.tell.ensures.answer; bytes = told-bytes x.out.now is c.tell.ensures.bytes }
