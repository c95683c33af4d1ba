-- `visits::opening::next_open` meets its contract.
use native.Mathlib.Omega.{arith}
use Rattle.visits.proofs.Places.{marks-last, open-here, open-passed, open-ended}
use Rattle.visits.proofs.opening.next_open.Goals as goal

pub overflow_sub-result : goal.overflow_sub-result
overflow_sub-result g c =
    let e = c.in-Some.ensures in
    omega (
      arith,
      marks-last _ _ _ c.open_marks-marks.ensures _ e.bound e.power_le (omega (arith, e.next_power_gt)) _ c.word.ensures.1
          g.met.T.Places.few,
      c.PLACES-in-Some.ensures,
    )

pub overflow_sub-result-in-Some : goal.overflow_sub-result-in-Some
overflow_sub-result-in-Some g c =
    let e = c.in-Some.ensures in
    omega (
      arith,
      marks-last _ _ _ c.open_marks-marks.ensures _ e.bound e.power_le (omega (arith, e.next_power_gt)) _ c.word.ensures.1
          g.met.T.Places.few,
      c.PLACES-in-Some.ensures,
    )

pub returns-in-Some : goal.returns-in-Some
returns-in-Some g c =
    let t = g.T.Places in
    let m = g.met.T.Places in
    let e = c.in-Some.ensures in
    rw (c.PLACES.ensures, c.PLACES-in-Some.ensures)
    (open-here t.PLACES m.few t.word t.cube m.coded _ _ _ c.loop-b.invariant c.loop-b-test.true _ _ c.index-near-b.is c.index-cut-b.is _ _ _
    c.word.ensures.0 c.word-in-loop-b.ensures.0 c.open_marks-marks.ensures _ e.bound e.power_le (omega (arith, e.next_power_gt)) c.word.ensures.1)

pub loop-b-preserved : goal.loop-b-preserved
loop-b-preserved g c =
    let t = g.T.Places in
    let m = g.met.T.Places in
    open-passed t.PLACES m.few t.word t.cube m.coded _ _ _ c.loop-b.invariant c.loop-b-test.true _ _ c.index-near-b.is c.index-cut-b.is _ _ _
    c.word.ensures.0 c.word-in-loop-b.ensures.0 c.open_marks-marks.ensures c.in_default.ensures.none

pub returns : goal.returns
returns g c = let t = g.T.Places in open-ended t.PLACES t.cube _ _ _ c.loop-b.invariant c.loop-b-test.false
