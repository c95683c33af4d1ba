-- `visits::long::begin` meets its contract.
use Rattle.visits.proofs.Meeting.{alive-fewer, alive-meets, alive-top, alive-passed, alive-none, against-fewer}
use Rattle.visits.specs.Words.{cube_of_words}
use Rattle.visits.specs.Settle.{settle}
use mathlib.Core.Path.{sym, ap, ◌∙◌}
use native.Mathlib.Omega.{arith}
use Rattle.visits.proofs.long.begin.Goals as goal

pub visit-requires : goal.visit-requires
visit-requires c = let p = c.requires in (p.0, p.1 c.if-first.true, p.2, p.3, p.4)

pub returns-then-first : goal.returns-then-first
returns-then-first c = rw c.if-first.true c.visit.ensures.said

pub returns-then-alive-eq0 : goal.returns-then-alive-eq0
returns-then-alive-eq0 c =
    rw c.if-first.false (c.last.ensures ∙ ap (settle c.args.a.allowance) (sym (alive-none _ _ _ _ c.requires.2 c.if-alive-eq0.true)))

pub visit-requires-2 : goal.visit-requires-2
visit-requires-2 c =
    let p = c.requires in
    let k = c.top-m.ensures in
    let l = alive-top _ _ _ p.2.0 k.2 in
    let cuts = c.args.cuts.now in
    let w = cube_of_words c.args.p in (
      omega (arith, l, p.0),
      alive-meets cuts _ _ w _ p.2 k.2 k.1 l,
      rw c.after_top.ensures (alive-fewer cuts _ _ w _ p.2 k.2 k.1 l),
      against-fewer cuts _ _ c.args.against.now (omega (arith, l)) p.3,
      p.4,
    )

pub returns : goal.returns
returns c =
    let p = c.requires in
    let k = c.top-m.ensures in
    let l = alive-top _ _ _ p.2.0 k.2 in
    rw c.if-first.false (c.visit-2.ensures.said ∙ ap (settle c.args.a.allowance) (sym (alive-passed _ _ _ _ _ p.2 k.1 l)))
