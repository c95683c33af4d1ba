use Prim.Native.Nat.{◌+◌}
use mathlib.Core.Path.{sym}
use native.Mathlib.Omega.{arith}
use lib.Bits.{bit_and}
use lib.ListN.{get_or, drop}
use Rattle.std.proofs.lemmas.List.{drop_more}
use Rattle.model.specs.Cube.{shares}
use Rattle.format.specs.Bytes.{codes}
use Rattle.format.proofs.Coding.{length-codes}
use Rattle.cube.proofs.Loops.{gathered}
use Rattle.cube.proofs.Octets.{gaps}
use Rattle.cube.proofs.Codes.{shares-apart}
use Rattle.cube.proofs.Steps.{shares-step}
use Rattle.cube.proofs.pair.meets.Goals as goal

pub returns-then-a-b : goal.returns-then-a-b
returns-then-a-b c =
    let x = c.args in
    let k = length-codes x.a.now in
    let m = length-codes x.b.now in
    sym (shares-apart (codes x.a.now) (codes x.b.now) (λ e. c.if-a-b.true (omega arith)))

pub loop-i-preserved : goal.loop-i-preserved
loop-i-preserved c =
    let l = c.loop-i in
    let a = c.args.a.now in
    let b = c.args.b.now in
    let i = l.i in
    gathered l.bad (gaps (bit_and (get_or a i 0) (get_or b i 0))) _ (shares (codes (drop (i + 1) a)) (codes (drop (i + 1) b))) _
    (rw (drop_more a i 0 (omega arith), drop_more b i 0 (omega arith)) (shares-step (get_or a i 0) (get_or b i 0) (drop (i + 1) a) (drop (i + 1) b) (omega arith))) l.invariant
