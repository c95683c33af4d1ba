-- `visits::table::alive_of` meets its contract.
use Rattle.visits.proofs.Entering.{met-more}
use Rattle.visits.proofs.Meeting.{pow-double}
use Rattle.model.specs.Cube.{shares}
use Rattle.format.specs.Bytes.{codes}
use mathlib.Core.Bool.{true, false}
use mathlib.Core.Path.{sym, ap, ◌∙◌}
use lib.Pow.{pow_mono}
use native.Mathlib.Omega.{arith}
use Prim.Native.Nat.{suc, ◌≤◌}
use Rattle.visits.proofs.table.alive_of.Goals as goal
use Rattle.visits.proofs.table.alive_of.Goals.{then-meets, else-meets}

pub overflow_add-x : goal.overflow_add-x
overflow_add-x c =
    let e : suc c.loop-m.m ≤ 64 = omega (arith, c.loop-m-test.true, c.requires.0) in
    omega (arith, c.digit_of-x.ensures, c.loop-m.invariant.0, pow_mono e, pow-double c.loop-m.m)

pub loop-m-preserved : goal.loop-m-preserved
loop-m-preserved c =
    let v = c.loop-m.invariant in
    let p = codes c.args.piece.now in
    let b = c.meets.ensures ∙ ap (λ s. shares p (codes s)) c.cut_of.ensures in
    elim c.if-meets.branch [
      | then-meets w ↦ met-more c.args.cuts p c.loop-m.m c.loop-m.x c.if-meets.x true (omega (arith, w.x-is, w.digit_of-x.ensures)) (sym w.if-meets.true ∙ b) v
      | else-meets w ↦ met-more c.args.cuts p c.loop-m.m c.loop-m.x c.if-meets.x false (omega (arith, w.x-is)) (sym w.if-meets.false ∙ b) v
    ]
