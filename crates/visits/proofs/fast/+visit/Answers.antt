-- `visits::fast::+visit` meets its contract: see Invariants.antt.
use Rattle.visits.specs.Settle.{Said, settle}
use borrow.Author.Rules.{rules}
use Prim.Native.Nat.{◌/◌, ◌≤◌}
use native.Mathlib.Nat.{pos_of_ne-zero}
use native.Mathlib.Omega.{arith}
use mathlib.Core.Path.{refl, sym, ap, ◌∙◌}
use lib.ListN.{length, set, length-set}
use lib.Seq.{set-set}
use lib.Pow.{pow_mono}
use Rattle.model.proofs.Walking.{walk-positive}
use Rattle.visits.specs.Words.{cube_of_words}
use Rattle.visits.proofs.Settle.{settle-none}
use Rattle.visits.proofs.Meeting.{alive-fewer, alive-meets, alive-top, alive-none, against-fewer}
use Rattle.visits.proofs.Places.{words-passed}
use Rattle.visits.proofs.Narrowing.{open-inside, opened, took-cube, child-alive, agreed-alive, child-stops, child-covered, none-opens, later_first, begun, survives-stops, Told, told-known, told-visited, told-stops, told-sum, told-count}
use Rattle.visits.proofs.fast.+visit.Goals as goal
use Rattle.visits.proofs.fast.+visit.Goals.{in-Some-known, in-None, then-is_none, else-is_none}

pub returns-then-a-eq0-clause-said : goal.returns-then-a-eq0-clause-said
returns-then-a-eq0-clause-said t c = sym (settle-none _ _ c.if-a-eq0.true (walk-positive _ _))

pub given-requires : goal.given-requires
given-requires t c =
    let o = opened _ _ _ _ _ c.loop-next.invariant.1 c.in-Some.is c.number_in-y.ensures.0 in
    (omega arith, omega arith, o.place)

pub narrow-alive-requires : goal.narrow-alive-requires
narrow-alive-requires t c =
    let o = opened _ _ _ _ _ c.loop-next.invariant.1 c.in-Some.is c.number_in-y.ensures.0 in
    (o.inside, omega (arith, o.most), omega (arith, o.least))

pub returns-then-alive-eq0-clause-said : goal.returns-then-alive-eq0-clause-said
returns-then-alive-eq0-clause-said t c =
    let g = c.args in
    let v = c.loop-next.invariant in
    let o = opened _ _ _ _ _ c.loop-next.invariant.1 c.in-Some.is c.number_in-y.ensures.0 in
    let a = child-alive _ _ _ _ v.0 o g.cuts.now g.n g.against.now _ v.3 c.requires.3 c.given.result _ c.given.ensures c.narrow-alive.ensures in
    sym
    ((begun _ _ _ _ _ (pos_of_ne-zero c.if-a-eq0.false) c.spend-have.ensures c.requires.1 ∙ v.2)
    ∙ child-stops _ _ _ _ v.0 o _ _ _ c.given.ensures _ (c.last.ensures ∙ ap (settle c.loop-next.have.allowance)
    (sym (alive-none _ _ _ _ a c.if-alive-eq0.true)))
    (λ q. survives-stops _ _ (sym (ap (λ (x : Said). x.verdict) c.last.ensures) ∙ q)))

pub visit-reply-requires : goal.visit-reply-requires
visit-reply-requires t c =
    let g = c.args in
    let v = c.loop-next.invariant in
    let o = opened _ _ _ _ _ c.loop-next.invariant.1 c.in-Some.is c.number_in-y.ensures.0 in
    let a = child-alive _ _ _ _ v.0 o g.cuts.now g.n g.against.now _ v.3 c.requires.3 c.given.result _ c.given.ensures c.narrow-alive.ensures in
    let k = c.top-m.ensures in
    let l = alive-top _ _ _ a.0 k.2 in
    let child = cube_of_words (set c.loop-next.near (c.in-Some.i / 32) c.given.result) in (
      omega (arith, l, c.decreases),
      (
        omega (arith, l, c.requires.0),
        alive-meets g.cuts.now _ _ child _ a k.2 k.1 l,
        rw c.after_top.ensures (alive-fewer g.cuts.now _ _ child _ a k.2 k.1 l),
        against-fewer g.cuts.now _ _ g.against.now (omega (arith, l)) c.requires.3,
        v.4,
      ),
    )

pub returns-in_default-verdict : goal.returns-in_default-verdict
returns-in_default-verdict t c =
    let g = c.args in
    let v = c.loop-next.invariant in
    let o = opened _ _ _ _ _ c.loop-next.invariant.1 c.in-Some.is c.number_in-y.ensures.0 in
    let a = child-alive _ _ _ _ v.0 o g.cuts.now g.n g.against.now _ v.3 c.requires.3 c.given.result _ c.given.ensures c.narrow-alive.ensures in
    let r = told-stops g.cuts.now g.n c.loop-next.have.allowance _ c.match-known.reply c.match-known.slots (
    elim c.match-known.branch [
      | in-Some-known w ↦ told-known _ _ _ _ _ a _ _ w.reply-is _ _ w.slots-is v.4 _ (c.look-known.ensures _ w.in-Some-known.is _ v.4 _ a) w.pay-reply.ensures
      | in-None w ↦ told-visited _ _ _ _ _ a _ _ w.reply-is _ _ w.slots-is w.visit-reply.ensures.kept _ w.top-m.ensures w.visit-reply.ensures.said
    ])
    _ _ _ _ v.0 o _ c.given.ensures refl c.in_default-verdict.not-Covered in
    record {
      said = sym ((begun _ _ _ _ _ (pos_of_ne-zero c.if-a-eq0.false) c.spend-have.ensures c.requires.1 ∙ v.2) ∙ r.0);
      kept = r.1;
    }

pub overflow_sub-count : goal.overflow_sub-count
overflow_sub-count t c =
    let g = c.args in
    let v = c.loop-next.invariant in
    let o = opened _ _ _ _ _ c.loop-next.invariant.1 c.in-Some.is c.number_in-y.ensures.0 in
    let a = child-alive _ _ _ _ v.0 o g.cuts.now g.n g.against.now _ v.3 c.requires.3 c.given.result _ c.given.ensures c.narrow-alive.ensures in
    (told-count g.cuts.now g.n c.loop-next.have.allowance _ c.match-known.reply c.match-known.slots (
    elim c.match-known.branch [
      | in-Some-known w ↦ told-known _ _ _ _ _ a _ _ w.reply-is _ _ w.slots-is v.4 _ (c.look-known.ensures _ w.in-Some-known.is _ v.4 _ a) w.pay-reply.ensures
      | in-None w ↦ told-visited _ _ _ _ _ a _ _ w.reply-is _ _ w.slots-is w.visit-reply.ensures.kept _ w.top-m.ensures w.visit-reply.ensures.said
    ]) c.in-Covered.is).0

pub of-have-requires : goal.of-have-requires
of-have-requires t c =
    let g = c.args in
    let v = c.loop-next.invariant in
    let o = opened _ _ _ _ _ c.loop-next.invariant.1 c.in-Some.is c.number_in-y.ensures.0 in
    let a = child-alive _ _ _ _ v.0 o g.cuts.now g.n g.against.now _ v.3 c.requires.3 c.given.result _ c.given.ensures c.narrow-alive.ensures in
    omega (
      arith,
      told-sum g.cuts.now g.n c.loop-next.have.allowance _ c.match-known.reply c.match-known.slots (
          elim c.match-known.branch [
            | in-Some-known w ↦ told-known _ _ _ _ _ a _ _ w.reply-is _ _ w.slots-is v.4 _ (c.look-known.ensures _ w.in-Some-known.is _ v.4 _ a)
                w.pay-reply.ensures
            | in-None w ↦ told-visited _ _ _ _ _ a _ _ w.reply-is _ _ w.slots-is w.visit-reply.ensures.kept _ w.top-m.ensures w.visit-reply.ensures.said
          ]),
      c.loop-next.have.counted,
    )

pub keep-requires : goal.keep-requires
keep-requires t c =
    let g = c.args in
    let v = c.loop-next.invariant in
    let o = opened _ _ _ _ _ c.loop-next.invariant.1 c.in-Some.is c.number_in-y.ensures.0 in
    let a = child-alive _ _ _ _ v.0 o g.cuts.now g.n g.against.now _ v.3 c.requires.3 c.given.result _ c.given.ensures c.narrow-alive.ensures in
    let b : g.n ≤ length g.cuts.now = omega (arith, c.requires.0) in
    omega (arith, pow_mono b, a.0)

pub given-requires-in-Some : goal.given-requires-in-Some
given-requires-in-Some t c =
    let o = opened _ _ _ _ _ c.loop-next.invariant.1 c.in-Some.is c.number_in-y.ensures.0 in
    (omega arith, omega arith, o.place)

pub narrow-met-requires : goal.narrow-met-requires
narrow-met-requires t c =
    let o = opened _ _ _ _ _ c.loop-next.invariant.1 c.in-Some.is c.number_in-y.ensures.0 in
    (o.inside, o.least, o.most)

pub loop-next-smaller : goal.loop-next-smaller
loop-next-smaller t c =
    let v = c.loop-next.invariant in
    let o = opened _ _ _ _ _ c.loop-next.invariant.1 c.in-Some.is c.number_in-y.ensures.0 in
    let p = ap cube_of_words (set-set c.loop-next.near (c.in-Some.i / 32) c.given.result c.given-in-Some.result) ∙ took-cube c.loop-next.near
    c.in-Some.i _ c.given-in-Some.result v.0 o.inside c.given-in-Some.ensures in
    omega (arith, o.first, o.inside, later_first _ _ _ _ _ o p)

pub loop-next-preserved : goal.loop-next-preserved
loop-next-preserved t c =
    let g = c.args in
    let v = c.loop-next.invariant in
    let o = opened _ _ _ _ _ c.loop-next.invariant.1 c.in-Some.is c.number_in-y.ensures.0 in
    let a = child-alive _ _ _ _ v.0 o g.cuts.now g.n g.against.now _ v.3 c.requires.3 c.given.result _ c.given.ensures c.narrow-alive.ensures in
    let r : Told g.cuts.now g.n c.loop-next.have.allowance (cube_of_words (set c.loop-next.near (c.in-Some.i / 32) c.given.result))
    c.match-known.reply c.match-known.slots =
    elim c.match-known.branch [
      | in-Some-known w ↦ told-known _ _ _ _ _ a _ _ w.reply-is _ _ w.slots-is v.4 _ (c.look-known.ensures _ w.in-Some-known.is _ v.4 _ a) w.pay-reply.ensures
      | in-None w ↦ told-visited _ _ _ _ _ a _ _ w.reply-is _ _ w.slots-is w.visit-reply.ensures.kept _ w.top-m.ensures w.visit-reply.ensures.said
    ] in
    let p = ap cube_of_words (set-set c.loop-next.near (c.in-Some.i / 32) c.given.result c.given-in-Some.result) ∙ took-cube c.loop-next.near
    c.in-Some.i _ c.given-in-Some.result v.0 o.inside c.given-in-Some.ensures in
    let b = told-count _ _ _ _ _ _ r c.in-Covered.is in (
      length-set (set c.loop-next.near (c.in-Some.i / 32) c.given.result) (c.in-Some.i / 32) c.given-in-Some.result ∙ length-set c.loop-next.near
          (c.in-Some.i / 32) c.given.result ∙ v.0,
      c.next_open-next-in-Some.ensures,
      rw c.of-have.ensures (v.2 ∙ child-covered _ _ _ _ v.0 o _ _ _ c.given.ensures _ r.said c.in-Covered.is _ p),
      rw (set-set c.loop-next.near (c.in-Some.i / 32) c.given.result c.given-in-Some.result)
          (agreed-alive _ _ _ _ v.0 o g.cuts.now g.n g.against.now _ v.3 c.requires.3 c.given-in-Some.result _ c.given-in-Some.ensures c.narrow-met.ensures),
      elim c.if-is_none.branch [ then-is_none w ↦ rw w.slots-is (w.keep.ensures r.memory _ a b.1) | else-is_none w ↦ rw w.slots-is r.memory ],
    )

pub returns-clause-said : goal.returns-clause-said
returns-clause-said t c =
    let v = c.loop-next.invariant in
    sym ((begun _ _ _ _ _ (pos_of_ne-zero c.if-a-eq0.false) c.spend-have.ensures c.requires.1 ∙ v.2) ∙ none-opens _ _ _ _ _ c.loop-next.invariant.1
    (search rules))

pub next_open-next-requires-in-Some : goal.next_open-next-requires-in-Some
next_open-next-requires-in-Some t c =
    let v = c.loop-next.invariant in
    let o = opened _ _ _ _ _ c.loop-next.invariant.1 c.in-Some.is c.number_in-y.ensures.0 in
    let p = ap cube_of_words (set-set c.loop-next.near (c.in-Some.i / 32) c.given.result c.given-in-Some.result) ∙ took-cube c.loop-next.near
    c.in-Some.i _ c.given-in-Some.result v.0 o.inside c.given-in-Some.ensures in
    words-passed _ _ _
    (length-set (set c.loop-next.near (c.in-Some.i / 32) c.given.result) (c.in-Some.i / 32) c.given-in-Some.result ∙ length-set c.loop-next.near
    (c.in-Some.i / 32) c.given.result ∙ v.0)
    (search rules) (omega (arith, later_first _ _ _ _ _ o p))

pub next_open-next-requires : goal.next_open-next-requires
next_open-next-requires t c = words-passed _ _ _ (search rules) (search rules) (omega arith)

pub number_in-y-requires : goal.number_in-y-requires
number_in-y-requires t c = open-inside _ _ _ _ c.loop-next.invariant.1 c.in-Some.is

pub bounds-near-w : goal.bounds-near-w
bounds-near-w t c = omega (arith, open-inside _ _ _ _ c.loop-next.invariant.1 c.in-Some.is)

pub bounds-near-w-in-Some : goal.bounds-near-w-in-Some
bounds-near-w-in-Some t c = omega (arith, open-inside _ _ _ _ c.loop-next.invariant.1 c.in-Some.is)

pub bounds-near-w-in-Some-2 : goal.bounds-near-w-in-Some-2
bounds-near-w-in-Some-2 t c = omega (arith, open-inside _ _ _ _ c.loop-next.invariant.1 c.in-Some.is)
