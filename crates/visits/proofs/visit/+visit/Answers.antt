-- `visits::visit::+visit` meets its contract: see Invariants.antt.
use borrow.Author.Rules.{rules}
use native.Mathlib.Nat.{pos_of_ne-zero}
use native.Mathlib.Omega.{arith}
use mathlib.Core.Path.{refl, sym, ap, ◌∙◌}
use Rattle.model.proofs.Walking.{walk-positive}
use Rattle.format.proofs.Coding.{length-codes}
use Rattle.format.specs.Bytes.{code_of, codes}
use Rattle.cube.specs.Whole.{cube_of}
use lib.ListN.{set}
use lib.Seq.{set-set}
use Rattle.visits.proofs.Places.{bytes-passed}
use Rattle.visits.proofs.Step.{piece-given, front_length, cube-length, opens_at}
use Rattle.visits.proofs.Settle.{settle-none, settle-keeps}
use Rattle.visits.proofs.Turn.{begin-survives, begin-split, turn_end, turn-covered, turn-stop}
use Rattle.visits.proofs.visit.+visit.Goals as goal

pub returns-then-a-eq0 : goal.returns-then-a-eq0
returns-then-a-eq0 t c = sym (settle-none _ _ c.if-a-eq0.true (walk-positive _ _))

pub returns-in_default : goal.returns-in_default
unfolding cube_of
returns-in_default t c = begin-survives _ _ _ _ (pos_of_ne-zero c.if-a-eq0.false) c.spend-have.ensures c.in_default.ensures

pub loop-next-init : goal.loop-next-init
unfolding cube_of
loop-next-init t c = (search rules, c.next_open-next.ensures, refl)

pub other-requires : goal.other-requires
other-requires t c =
    let o = opens_at c.args.cuts.row.size c.in-Some-next.i c.code_at-y.result c.in-Some.cut.now c.loop-next.near _ c.args.cuts.narrow
    c.loop-next.invariant.0 c.in-Some.ensures.long c.loop-next.invariant.1 c.in-Some-next.is c.code_at-y.ensures in
    o.small

pub returns-in_default-verdict : goal.returns-in_default-verdict
unfolding cube_of
returns-in_default-verdict t c =
    let o = opens_at c.args.cuts.row.size c.in-Some-next.i c.code_at-y.result c.in-Some.cut.now c.loop-next.near _ c.args.cuts.narrow
    c.loop-next.invariant.0 c.in-Some.ensures.long c.loop-next.invariant.1 c.in-Some-next.is c.code_at-y.ensures in
    let g = piece-given c.loop-next.near c.set_code.new.c _ _ (search rules) c.set_code.ensures in
    let r = simp c.in-Some.ensures.size at c.visit-reply.ensures in
    sym ((begin-split _ _ _ _ (pos_of_ne-zero c.if-a-eq0.false) c.spend-have.ensures _ _ c.in-Some.ensures.same c.in-Some.ensures.meets
    ∙ c.loop-next.invariant.2) ∙ turn-stop _ _ _ _ o.even _ o.first o.inside _ _ o.code (o.other _ c.other.ensures) _ (g.cube _ o.under) _ r
    c.in_default-verdict.not-Covered)

pub of-have-requires : goal.of-have-requires
of-have-requires t c = omega (arith, settle-keeps _ _ _ c.visit-reply.ensures, c.loop-next.have.counted)

pub next_open-next-requires-in-Some-next : goal.next_open-next-requires-in-Some-next
unfolding cube_of
next_open-next-requires-in-Some-next t c =
    let o = opens_at c.args.cuts.row.size c.in-Some-next.i c.code_at-y.result c.in-Some.cut.now c.loop-next.near _ c.args.cuts.narrow
    c.loop-next.invariant.0 c.in-Some.ensures.long c.loop-next.invariant.1 c.in-Some-next.is c.code_at-y.ensures in
    let g = piece-given c.loop-next.near c.set_code-in-Some-next.new.c _ _ (search rules)
    (c.set_code-in-Some-next.ensures ∙ ap (λ p. set p c.in-Some-next.i (code_of c.code_at-y.result)) c.set_code.ensures ∙ set-set
    (codes c.loop-next.near) _ _ _) in
    let l = front_length c.args.cuts.row.size c.set_code-in-Some-next.new.c (omega (arith, c.args.cuts.narrow, g.long)) in
    bytes-passed _ _ _ (l ∙ sym c.in-Some.ensures.long) (omega (arith, l, c.args.cuts.narrow)) (omega (arith, o.later c.set_code-in-Some-next.new.c g))

pub next_open-next-requires : goal.next_open-next-requires
next_open-next-requires t c =
    let l = front_length c.args.cuts.row.size c.args.piece (omega (arith, c.args.cuts.narrow)) in
    bytes-passed _ _ _ (l ∙ sym c.in-Some.ensures.long) (omega (arith, l, c.args.cuts.narrow)) (omega arith)

pub loop-next-smaller : goal.loop-next-smaller
loop-next-smaller t c =
    let o = opens_at c.args.cuts.row.size c.in-Some-next.i c.code_at-y.result c.in-Some.cut.now c.loop-next.near _ c.args.cuts.narrow
    c.loop-next.invariant.0 c.in-Some.ensures.long c.loop-next.invariant.1 c.in-Some-next.is c.code_at-y.ensures in
    let g = piece-given c.loop-next.near c.set_code-in-Some-next.new.c _ _ (search rules)
    (c.set_code-in-Some-next.ensures ∙ ap (λ p. set p c.in-Some-next.i (code_of c.code_at-y.result)) c.set_code.ensures ∙ set-set
    (codes c.loop-next.near) _ _ _) in
    omega (arith, o.later c.set_code-in-Some-next.new.c g, o.first, o.under)

pub loop-next-preserved : goal.loop-next-preserved
unfolding cube_of
loop-next-preserved t c =
    let o = opens_at c.args.cuts.row.size c.in-Some-next.i c.code_at-y.result c.in-Some.cut.now c.loop-next.near _ c.args.cuts.narrow
    c.loop-next.invariant.0 c.in-Some.ensures.long c.loop-next.invariant.1 c.in-Some-next.is c.code_at-y.ensures in
    let h = piece-given c.loop-next.near c.set_code.new.c _ _ (search rules) c.set_code.ensures in
    let g = piece-given c.loop-next.near c.set_code-in-Some-next.new.c _ _ (search rules)
    (c.set_code-in-Some-next.ensures ∙ ap (λ p. set p c.in-Some-next.i (code_of c.code_at-y.result)) c.set_code.ensures ∙ set-set
    (codes c.loop-next.near) _ _ _) in
    let r = simp c.in-Some.ensures.size at c.visit-reply.ensures in (
      g.long,
      c.next_open-next-in-Some-next.ensures,
      c.loop-next.invariant.2
          ∙ turn-covered _ _ _ _ o.even _ o.first o.inside _ _ o.code (o.other _ c.other.ensures) _ (h.cube _ o.under) _ r c.in-Covered.is
          ∙ rw (g.cube _ o.under, c.of-have.ensures) refl,
    )

pub returns : goal.returns
unfolding cube_of
returns t c =
    let near = cube-length c.args.cuts.row.size c.loop-next.near (omega (arith, c.args.cuts.narrow, c.loop-next.invariant.0)) in
    let cut = length-codes c.in-Some.cut.now in
    sym
    ((begin-split _ _ _ _ (pos_of_ne-zero c.if-a-eq0.false) c.spend-have.ensures _ _ c.in-Some.ensures.same c.in-Some.ensures.meets
    ∙ c.loop-next.invariant.2) ∙ turn_end _ _ _ _ (omega (arith, near, cut, c.in-Some.ensures.long)) (c.loop-next.invariant.1.none_left (search rules)))
