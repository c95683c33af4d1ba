use Prim.Native.Nat.{◌+◌, ◌-◌, ◌*◌, ◌/◌, ◌%◌, ◌^◌, ◌<◌}
use native.Mathlib.Omega.{arith}
use mathlib.Core.Path.{◌≡◌, refl, sym, ap, ◌∙◌}
use lib.ListN.{length, get_or, set}
use Rattle.model.specs.Cube.{Code}
use Rattle.model.specs.Fields.{bit_code}
use Rattle.format.specs.Bytes.{bits, codes}
use Rattle.format.proofs.Heading.{length-bits, bit_at}
use Rattle.format.proofs.Coding.{codes-free}
use Rattle.fields.proofs.Fielding.{prefix-none, prefix-more, bit-code}
use Rattle.fields.proofs.prefixes.put_prefix.Goals as goal

pub loop-i-init : goal.loop-i-init
loop-i-init c =
    let x = c.args in
    let n = length x.c.now in (
      refl,
      ap codes c.fill.ensures ∙ codes-free n ∙ rw c.fill.auto.c (prefix-none (4 * n) x.s (bits x.value.now) (omega (arith, c.requires.0))),
    )

pub loop-i-preserved : goal.loop-i-preserved
loop-i-preserved c =
    let x = c.args in
    let i = c.loop-i.i in
    let v = c.loop-i.invariant in
    let h = c.loop-i-test.true in
    let b = x.value.now in
    let bit = bit-code (get_or b (i / 8) 0 / 2 ^ (7 - i % 8) % 2) (omega arith) ∙ ap bit_code (sym (bit_at b i (omega (arith, c.requires.1, h)))) in
    let covered : i < length (bits b) = rw (length-bits b) (omega (arith, c.requires.1, h)) in (
      c.set_code.auto.c ∙ v.0,
      c.set_code.ensures
          ∙ ap (λ (code : Code). set (codes c.loop-i.c) (x.s + i) code) bit
          ∙ rw v.1 (prefix-more _ x.s i (bits b) covered (omega (arith, c.fill.auto.c, c.requires.0, h))),
    )

pub returns : goal.returns
returns c =
    let e : c.loop-i.i ≡ c.args.m = omega arith in
    rw (← e, ← c.fill.auto.c) c.loop-i.invariant.1
