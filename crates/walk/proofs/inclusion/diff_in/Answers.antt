-- `walk::inclusion::diff_in` meets its contract.
use native.Mathlib.Omega.{arith}
use mathlib.Core.Path.{refl, sym}
use lib.ListN.{length}
use Rattle.model.specs.Walk.{walk_inclusion, walks_less, stop}
use Rattle.answer.specs.Answer.{accepted}
use Rattle.format.proofs.Lending.{two-refused, two_lent, silent-answer, silent-bytes, told-answer, told-bytes}
use Rattle.format.specs.Calls.{diff_in}
use Rattle.format.specs.Told.{walking}
use Rattle.format.specs.Records.{difference_at}
use Rattle.walk.proofs.Included.{in-room, in_told}
use Rattle.walk.proofs.inclusion.diff_in.Goals as goal

pub returns-in-Err : goal.returns-in-Err
unfolding diff_in
returns-in-Err c =
    let x = c.args in
    let a = difference_at x.w x.s.now 0 in
    let b = difference_at x.w x.t.now 0 in
    let k = walking x.w x.allowance (length x.out.now) (stop x.allowance (walks_less a b)) (walk_inclusion a b) in
    let is = two-refused x.w x.s.now x.t.now _ c.in-Err.ensures.0 k c.in-Err.ensures.1 in
    record { answer = silent-answer refl is; bytes = silent-bytes is }

pub returns-then-out-header_len : goal.returns-then-out-header_len
returns-then-out-header_len c =
    let x = c.args in
    let is = in-room x.w x.s.now x.t.now x.allowance (length x.out.now) c.in-Ok.ensures.0 (omega (arith, c.if-out-header_len.true, c.header_len.ensures)) in
    record { answer = silent-answer c.into.ensures is; bytes = silent-bytes is }

pub tell-requires : goal.tell-requires
tell-requires c =
    let lent = c.in-Ok.ensures in
    ((two_lent c.args.w c.args.s.now c.args.t.now accepted (sym lent.0) refl).0.narrow, omega (arith, c.if-out-header_len.false, c.header_len.ensures))

pub returns : goal.returns
returns c =
    let x = c.args in
    let v = c.walk_less in
    let lent = c.in-Ok.ensures in
    let is = in_told x.w x.s.now x.t.now x.allowance (length x.out.now) lent.0 (omega (arith, c.if-out-header_len.false, c.header_len.ensures))
    lent.1 lent.2 v.result (rw (lent.1.size, c.fresh.ensures.0) at v.ensures) in
    record { answer = told-answer is c.tell.ensures.answer; bytes = told-bytes x.out.now is c.tell.ensures.bytes }
