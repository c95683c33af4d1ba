use mathlib.Core.Path.{◌≡◌, refl, ap}
use Rattle.std.proofs.Common.{rules, Ok, Err}
use Rattle.region.specs.Difference.{difference_of}
use Rattle.algebra.specs.Stops.{stop_at, Room}
use Rattle.algebra.specs.Steps.{stops_of}
use Rattle.algebra.proofs.Stepping.{all-map}
use Rattle.algebra.proofs.Running.{made-pairs, pairs-begin, pairs-added, pairs-refused, pairs-end}
use Rattle.algebra.proofs.run.Task.add_stops.Goals as goal

pub loop-stop-init : goal.loop-stop-init
loop-stop-init c =
    let x = c.args in
    let stand = all-map (Room x.piece.now.size x.self.now.t.now) (stop_at x.self.now.operation x.piece.now.size x.self.now.t.now) _
    (rw c.requires.size x.self.now.stand.stands) in
    pairs-begin _ _ _ _ _ _ x.piece.now refl (rw c.into_iter-stop-iterator.ensures.into_iter_gives stand)

pub returns-in_err-sum-clause-adds : goal.returns-in_err-sum-clause-adds
returns-in_err-sum-clause-adds c =
    let x = c.args in
    let back : c.from_residual.result ≡ Err c.in_err-sum.field-0.0 = search rules in
    made-pairs x.self.now.operation x.piece.now.size x.self.now.t.now (difference_of x.difference) x.self.now.start _ x.out.now x.sum c.add.new.out _
    (ap stops_of c.into_iter-stop-iterator.ensures.into_iter_gives)
    (rw back
    (pairs-refused x.piece.now.size (difference_of x.difference) x.self.now.t.now _ x.out.now x.sum _ c.loop-stop.out c.loop-stop.sum
    c.loop-stop.piece c.loop-stop.invariant
    c.in-Some.stop _ c.in-Some.ensures.steps c.make.new.self _ c.make.ensures _ c.is_some.ensures c.if-is_some.true c.add.new.out _ c.add.ensures _
    c.in_err-sum.was))

pub loop-stop-preserved-then-is_some : goal.loop-stop-preserved-then-is_some
loop-stop-preserved-then-is_some c =
    let x = c.args in
    pairs-added x.piece.now.size (difference_of x.difference) x.self.now.t.now _ x.out.now x.sum _ c.loop-stop.out c.loop-stop.sum c.loop-stop.piece
    c.loop-stop.invariant
    c.in-Some.stop _ c.in-Some.ensures.steps c.make.new.self _ c.make.ensures _ c.is_some.ensures c.if-is_some.true c.add.new.out _ c.add.ensures _
    c.in_ok-sum.was

pub returns-clause-adds : goal.returns-clause-adds
returns-clause-adds c =
    let x = c.args in
    made-pairs x.self.now.operation x.piece.now.size x.self.now.t.now (difference_of x.difference) x.self.now.start _ x.out.now x.sum c.loop-stop.out
    (Ok c.loop-stop.sum)
    (ap stops_of c.into_iter-stop-iterator.ensures.into_iter_gives)
    (pairs-end x.piece.now.size (difference_of x.difference) x.self.now.t.now _ x.out.now x.sum _ c.loop-stop.out c.loop-stop.sum c.loop-stop.piece
    c.loop-stop.invariant
    c.in-None.ensures.steps.0)
