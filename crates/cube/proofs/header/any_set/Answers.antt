use Prim.Native.Nat.{◌+◌}
use mathlib.Core.Path.{ap, ◌∙◌}
use mathlib.Core.Bool.{not-not, not}
use native.Mathlib.Omega.{arith}
use lib.ListN.{get_or, drop}
use Rattle.std.proofs.lemmas.List.{at_drop_more, at_drop_all}
use Rattle.format.specs.Bytes.{bits, any_bit}
use Rattle.cube.proofs.Loops.{gathered, ended}
use Rattle.cube.proofs.Steps.{set-step}
use Rattle.cube.proofs.header.any_set.Goals as goal

pub loop-b-preserved : goal.loop-b-preserved
loop-b-preserved c =
    let l = c.loop-b in
    let x = c.args.h.now in
    let b = get_or x l.b-index 0 in
    let left = drop (l.b-index + 1) x in
    gathered l.set b _ (not (any_bit (bits left))) _ (at_drop_more (λ a. not (any_bit (bits a))) x l.b-index 0 (omega arith) ∙ set-step b left (omega arith)) l.invariant

pub returns : goal.returns
returns c =
    let l = c.loop-b in
    let x = c.args.h.now in
    ap not (ended _ _ _ (at_drop_all (λ a. not (any_bit (bits a))) x l.b-index (omega arith)) l.invariant) ∙ not-not (any_bit (bits x))
