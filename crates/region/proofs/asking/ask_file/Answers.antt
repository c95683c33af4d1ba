-- `region::asking::ask_file` meets its contract.
use Prim.Native.Nat.{ℕ}
use mathlib.Core.Path.{refl, sym, ap, ◌∙◌}
use mathlib.Core.Bool.{not}
use mathlib.Core.List.{List}
use Rattle.std.specs.Borrow.{Bor}
use Rattle.model.specs.Difference.{held}
use Rattle.region.proofs.Turning.{turn-asked, turn-index, holder-none, holder-other, holder-before}
use Rattle.region.proofs.asking.ask_file.Goals as goal
use Rattle.region.proofs.asking.ask_file.Goals.{else-is_none-via-then-is_none+else-holds, else-is_none-via-else-is_none}

pub loop-difference-preserved-then-holds : goal.loop-difference-preserved-then-holds
loop-difference-preserved-then-holds c =
    let l = c.loop-difference in
    let turn = rw c.in-Some.is at c.in_ok-difference.ensures in
    let asked = turn-asked turn c.args.s.now l.invariant.0 c.args.h.now l.holder _ l.invariant.1 c.if-holds.ensures in
    (ap (λ (b : Bor (List ℕ)). b.now) turn.file ∙ l.invariant.0, ap held (turn-index turn) ∙ holder-none l.holder _ c.if-is_none.ensures ∙ asked)

pub loop-difference-preserved : goal.loop-difference-preserved
loop-difference-preserved c =
    let l = c.loop-difference in
    let turn = rw c.in-Some.is at c.in_ok-difference.ensures in
    let asked = turn-asked turn c.args.s.now l.invariant.0 c.args.h.now l.holder in
    let same = ap (λ (b : Bor (List ℕ)). b.now) turn.file ∙ l.invariant.0 in
    elim c.else-is_none.branch [
      | else-is_none-via-then-is_none+else-holds w ↦
          (same, holder-other l.holder _ ∙ asked _ l.invariant.1 (sym w.if-holds.false ∙ w.holds.ensures))
      | else-is_none-via-else-is_none w ↦
          (same, holder-before l.holder _ _ (c.is_none.ensures ∙ ap not w.if-is_none.false) ∙ asked _ l.invariant.1 refl)
    ]
