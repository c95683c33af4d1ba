use native.Mathlib.Numerals.{add-one}
use native.Mathlib.Omega.{arith}
use Rattle.hex_bytes.proofs.Writing.{one_more}
use Rattle.hex_bytes.proofs.write.Goals as goal

pub loop-i-preserved : goal.loop-i-preserved
loop-i-preserved c =
    let l = c.loop-i in
    let x = c.args in
    rw (c.digit.ensures, c.digit-in-loop-i.ensures, l.invariant, add-one l.i) (one_more x.s.now x.out.now l.i (omega arith) (omega arith))
