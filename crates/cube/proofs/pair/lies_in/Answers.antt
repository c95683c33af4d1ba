use Prim.Native.Nat.{◌+◌}
use mathlib.Core.Path.{refl, ◌∙◌}
use native.Mathlib.Omega.{arith}
use lib.Bits.{bit_and, bit_xor}
use lib.ListN.{get_or, drop}
use Rattle.std.proofs.lemmas.List.{drop_more, drop_all}
use Rattle.model.specs.Cube.{within}
use Rattle.format.specs.Bytes.{codes}
use Rattle.cube.proofs.Loops.{gathered, ended}
use Rattle.cube.proofs.Steps.{within_step}
use Rattle.cube.proofs.Pairs.{lies-apart, lies_within}
use Rattle.cube.proofs.pair.lies_in.Goals as goal

pub returns-then-a-b : goal.returns-then-a-b
returns-then-a-b c = lies-apart c.args.a.now c.args.b.now c.if-a-b.true

pub loop-i-preserved : goal.loop-i-preserved
loop-i-preserved c =
    let l = c.loop-i in
    let a = c.args.a.now in
    let b = c.args.b.now in
    let i = l.i in
    gathered l.bad (bit_xor (get_or a i 0) (bit_and (get_or a i 0) (get_or b i 0))) _ (within (codes (drop (i + 1) a)) (codes (drop (i + 1) b))) _
    (rw (drop_more a i 0 (omega arith), drop_more b i 0 (omega arith)) (within_step (get_or a i 0) (get_or b i 0) (drop (i + 1) a) (drop (i + 1) b) (omega arith))) l.invariant

pub returns : goal.returns
returns c =
    let l = c.loop-i in
    let x = c.args in
    ended _ _ _ (rw (drop_all l.i x.a.now (omega arith), drop_all l.i x.b.now (omega arith)) refl) l.invariant
    ∙ lies_within x.a.now x.b.now c.if-a-b.false
