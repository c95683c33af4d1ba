-- `fields::prefixes::prefix` meets its contract: each return is a row of its table.
use Prim.Native.Nat.{◌-◌}
use native.Mathlib.Omega.{arith}
use mathlib.Core.Path.{◌≡◌, refl, sym, ap, ◌∙◌}
use lib.ListN.{length, take, length-take}
use Rattle.answer.specs.Answer.{wrote}
use Rattle.format.specs.Bytes.{cube_len, bits}
use Rattle.format.specs.Told.{over}
use Rattle.format.proofs.Heading.{length-bits}
use Rattle.format.proofs.Lending.{silent-answer, silent-bytes, told-answer, told-bytes}
use Rattle.cube.proofs.Laying.{part-back}
use Rattle.fields.proofs.Fielding.{lent-bytes, prefix-bytes}
use Rattle.fields.proofs.Bounding.{field-stands}
use Rattle.fields.proofs.Constraints.{prefix-refused, prefix-long, prefix-bits-refused, prefix-within, prefix-covered, prefix-short, prefix-written}
use Rattle.fields.proofs.prefixes.prefix.Goals as goal

pub returns-in-Err : goal.returns-in-Err
returns-in-Err c =
    let x = c.args in
    let is = prefix-refused x.w x.s x.n x.m x.value.now (length x.out.now) _ c.in-Err.ensures in
    record { answer = silent-answer refl is; bytes = silent-bytes is }

pub returns-then-n-m : goal.returns-then-n-m
returns-then-n-m c =
    let x = c.args in
    let is = prefix-long x.w x.s x.n x.m x.value.now (length x.out.now) (field-stands x.w x.s x.n c.in_default.ensures) c.if-n-m.true in
    record { answer = silent-answer c.into.ensures is; bytes = silent-bytes is }

pub returns-in-Err-bits_refusal : goal.returns-in-Err-bits_refusal
returns-in-Err-bits_refusal c =
    let x = c.args in
    let is = prefix-bits-refused x.w x.s x.n x.m x.value.now (length x.out.now) (field-stands x.w x.s x.n c.in_default.ensures) c.if-n-m.false _ c.in-Err-bits_refusal.ensures in
    record { answer = silent-answer refl is; bytes = silent-bytes is }

pub returns-then-out-size : goal.returns-then-out-size
returns-then-out-size c =
    let x = c.args in
    let field = field-stands x.w x.s x.n c.in_default.ensures in
    let is = prefix-short x.w x.s x.n x.m x.value.now (length x.out.now) field c.if-n-m.false c.in_default-bits_refusal.ensures (rw (sym c.cube_len-size.ensures) c.if-out-size.true) in
    record { answer = silent-answer c.into-then-out-size.ensures is; bytes = silent-bytes is }

pub put_prefix-requires : goal.put_prefix-requires
put_prefix-requires c =
    let x = c.args in
    let field = field-stands x.w x.s x.n c.in_default.ensures in
    let within = prefix-within x.w x.s x.n x.m x.value.now (length x.out.now) field c.if-n-m.false c.in_default-bits_refusal.ensures in
    let covered = prefix-covered x.w x.s x.n x.m x.value.now (length x.out.now) field c.if-n-m.false c.in_default-bits_refusal.ensures in
    let l : length (take (c.cube_len-size.result - 0) x.out.now) ≡ c.cube_len-size.result = simp length-take (omega (arith, c.if-out-size.false)) in (
      omega (arith, l, c.cube_len-size.ensures, within),
      omega (arith, length-bits x.value.now, covered),
      omega (arith, within, field),
    )

pub returns : goal.returns
returns c =
    let x = c.args in
    let field = field-stands x.w x.s x.n c.in_default.ensures in
    let within = prefix-within x.w x.s x.n x.m x.value.now (length x.out.now) field c.if-n-m.false c.in_default-bits_refusal.ensures in
    let covered = prefix-covered x.w x.s x.n x.m x.value.now (length x.out.now) field c.if-n-m.false c.in_default-bits_refusal.ensures in
    let e = c.cube_len-size.ensures in
    let room = c.if-out-size.false in
    let is = prefix-written x.w x.s x.n x.m x.value.now (length x.out.now) field c.if-n-m.false c.in_default-bits_refusal.ensures (rw (sym e) room) in
    let n = c.cube_len-size.result - 0 in
    let ys = c.put_prefix.new.c in
    let k = c.put_prefix.auto.c in
    let l : length ys ≡ cube_len x.w = k ∙ simp length-take (omega (arith, room, e)) in
    let b = lent-bytes x.out.now ys 0 n (λ i. (c.type_inv.out i).fits) in
    let same = prefix-bytes x.w x.s x.m (bits x.value.now) ys b l within covered (rw (← k) at c.put_prefix.ensures) in
    record {
      answer = told-answer is (c.wrote.ensures ∙ ap wrote e);
      bytes = told-bytes x.out.now is (part-back x.out.now ys 0 n (l ∙ omega (arith, e)) ∙ ap (over x.out.now) same);
    }
