-- `visits::long::long_walk` meets its contract.
use Rattle.visits.proofs.Whole.{loaded-alive, first-met, first-none, first-passed, whole, in-bytes-says, zeros}
use Rattle.visits.proofs.Slots.{memory-fresh}
use Rattle.visits.proofs.Step.{front_length, cube-length}
use Rattle.visits.specs.Words.{cube_of_words, cuts_below}
use Rattle.visits.specs.Settle.{settle}
use Rattle.model.proofs.Walking.{survivor-length}
use Rattle.model.specs.Cube.{shares}
use Rattle.model.specs.Walk.{visit}
use Rattle.format.specs.Bytes.{codes}
use Rattle.cube.specs.Whole.{cube_of}
use mathlib.Core.Bool.{cond, true≢false}
use mathlib.Core.Path.{◌≡◌, refl, sym, ap, ◌∙◌}
use Prim.Native.Nat.{suc, ◌-◌, ◌*◌}
use native.Mathlib.Omega.{arith}
use borrow.Author.Rules.{rules}
use borrow.Author.Tests.{le-ltb}
use Rattle.visits.proofs.long.long_walk.Goals as goal
use Rattle.visits.proofs.long.long_walk.Goals.{then-n-row, else-n-row}

pub enter_all-requires : goal.enter_all-requires
enter_all-requires c = (omega (arith, c.min-n.ensures), search rules, zeros 640)

pub begin-requires : goal.begin-requires
unfolding cube_of
begin-requires c =
    let g = c.args in
    let n = c.min-n.result in
    let base = rw (front_length g.cuts.row.size g.piece (search rules)) at c.load.ensures in
    let lp = cube-length g.cuts.row.size g.piece (search rules) in (
      search rules,
      elim c.if-n-row.branch [
        | then-n-row w ↦ λ e. first-met g.cuts.row _ c.load_cuts.ensures _ _ lp base n w.if-n-row.true
            (ap (λ s. shares _ (codes s)) (sym w.cut_of.ensures) ∙ sym w.meets-first.ensures ∙ sym w.first-is ∙ e)
        | else-n-row w ↦ λ e. absurd (true≢false (sym e ∙ w.first-is ∙ le-ltb _ _ w.if-n-row.false))
      ],
      loaded-alive g.cuts.row _ c.load_cuts.ensures _ _ lp base n _ (omega (arith, c.min-n.ensures)) c.alive_of-alive.ensures,
      c.enter_all.ensures,
      memory-fresh _ 251 _ refl,
    )

pub returns : goal.returns
unfolding cube_of
returns c =
    let g = c.args in
    let n = c.min-n.result in
    let base = rw (front_length g.cuts.row.size g.piece (search rules)) at c.load.ensures in
    let lp = cube-length g.cuts.row.size g.piece (search rules) in
    let passed : visit (cuts_below c.load_cuts.new.table (cond c.if-n-row.first (suc n) n)) (cube_of_words c.load.result) ≡ visit
    (cuts_below c.load_cuts.new.table g.cuts.row.count) (cube_of_words c.load.result) =
    elim c.if-n-row.branch [
      | then-n-row w ↦ first-passed g.cuts.row _ c.load_cuts.ensures _ _ lp base n _ c.min-n.ensures g.cuts.few w.if-n-row.true
          (w.first-is ∙ w.meets-first.ensures ∙ ap (λ s. shares _ (codes s)) w.cut_of.ensures)
      | else-n-row w ↦ rw (w.first-is, le-ltb _ _ w.if-n-row.false) (first-none g.cuts.row _ c.load_cuts.ensures _ _ lp base n c.min-n.ensures w.if-n-row.false)
    ] in
    in-bytes-says g.cuts.row.size (320 - 4 * g.cuts.row.size) g.a.allowance _ c.begin.result c.in_bytes.result
    (λ w e. survivor-length _ _ w e ∙ lp)
    (c.begin.ensures ∙ ap (settle g.a.allowance) (passed ∙ sym (whole g.cuts.row _ c.load_cuts.ensures _ _ lp base)))
    c.in_bytes.ensures
