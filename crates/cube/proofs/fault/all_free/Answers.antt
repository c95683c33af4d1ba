use Prim.Native.Nat.{◌+◌}
use mathlib.Core.Path.{◌∙◌}
use native.Mathlib.Omega.{arith}
use lib.Bits.{bit_xor}
use lib.ListN.{get_or, drop}
use Rattle.std.proofs.lemmas.List.{at_drop_more}
use Rattle.format.specs.Bytes.{codes, all_free}
use Rattle.cube.proofs.Loops.{gathered}
use Rattle.cube.proofs.Steps.{free_step}
use Rattle.cube.proofs.fault.all_free.Goals as goal

pub loop-b-preserved : goal.loop-b-preserved
loop-b-preserved c =
    let l = c.loop-b in
    let x = c.args.c.now in
    let b = get_or x l.b-index 0 in
    let left = drop (l.b-index + 1) x in
    gathered l.bad (bit_xor b 255) _ (all_free (codes left)) _ (at_drop_more (λ a. all_free (codes a)) x l.b-index 0 (omega arith) ∙ free_step b left (omega arith)) l.invariant
