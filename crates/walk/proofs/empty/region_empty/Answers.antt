-- `walk::empty::region_empty` meets its contract.
use Prim.Native.Nat.{ℕ}
use native.Mathlib.Omega.{arith}
use mathlib.Core.Path.{ap, ◌∙◌}
use mathlib.Core.List.{map}
use lib.ListN.{length}
use Rattle.model.specs.Walk.{walk, walk_region, stop}
use Rattle.format.proofs.Lending.{file-refused, silent-answer, silent-bytes, told-answer, told-bytes}
use Rattle.format.proofs.Refusals.{numbered}
use Rattle.region.proofs.Onward.{file-read}
use Rattle.format.specs.Calls.{region_empty}
use Rattle.format.specs.Told.{walking}
use Rattle.format.specs.Files.{region_in}
use Rattle.format.specs.Records.{width_of}
use Rattle.walk.proofs.Emptied.{region-room, region-told}
use Rattle.walk.specs.Tell.{told_of}
use Rattle.walk.proofs.empty.region_empty.Goals as goal

pub returns-in-Err : goal.returns-in-Err
unfolding region_empty
returns-in-Err c =
    let x = c.args in
    let i = c.in-Err.ensures in
    let r = region_in x.s.now in
    let k = walking (width_of x.s.now) x.allowance (length x.out.now) (stop x.allowance (map walk r)) (walk_region r) in
    let is = file-refused x.s.now 1 k _ _ i.number i.offset (numbered _) in
    record { answer = silent-answer c.of_operand.ensures is; bytes = silent-bytes is }

pub returns-then-out-header_len : goal.returns-then-out-header_len
returns-then-out-header_len c =
    let x = c.args in
    let i = c.in-Ok.ensures in
    let is = region-room x.s.now x.allowance (length x.out.now) i.accepted (omega (arith, c.if-out-header_len.true, c.header_len.ensures, i.width)) in
    record { answer = silent-answer c.into.ensures is; bytes = silent-bytes is }

pub tell-requires : goal.tell-requires
tell-requires c =
    let i = c.in-Ok.ensures in
    let n = (file-read i).width.narrow in
    (omega (arith, i.width, n), omega (arith, c.if-out-header_len.false, c.header_len.ensures))

pub returns : goal.returns
returns c =
    let x = c.args in
    let i = c.in-Ok.ensures in
    let v = c.walk_file in
    let is = ap (λ (w : ℕ). told_of w v.result) i.width
    ∙ region-told x.s.now x.allowance (length x.out.now) i.accepted (omega (arith, c.if-out-header_len.false, c.header_len.ensures, i.width)) v.result
    (rw c.fresh.ensures.0 at v.ensures) in
    record { answer = told-answer is c.tell.ensures.answer; bytes = told-bytes x.out.now is c.tell.ensures.bytes }
