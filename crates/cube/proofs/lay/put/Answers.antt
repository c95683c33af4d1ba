-- `cube::lay::put` meets its contract.
use Prim.Native.Nat.{◌+◌, ◌-◌}
use native.Mathlib.Omega.{arith}
use mathlib.Core.Path.{sym, ◌∙◌}
use lib.ListN.{length}
use Rattle.cube.proofs.Laying.{put-fits, put-long, part-back}
use Rattle.cube.proofs.lay.put.Goals as goal

pub returns-then-src-out : goal.returns-then-src-out
returns-then-src-out c =
    let x = c.args in
    rw c.copy_from_slice.ensures.after
    (part-back x.out.now x.src.now x.o (x.o + length x.src.now - x.o) (omega arith) ∙ sym (put-fits x.out.now x.o x.src.now (omega arith)))

pub returns-else-o-out : goal.returns-else-o-out
returns-else-o-out c = let x = c.args in sym (put-long x.out.now x.o x.src.now (omega arith))
