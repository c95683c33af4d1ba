use mathlib.Core.Path.{◌≡◌, ap, ◌∙◌}
use Rattle.std.proofs.Common.{rules, Err}
use Rattle.format.specs.Bytes.{cube_len}
use Rattle.region.proofs.Differences.{difference-own}
use Rattle.algebra.specs.Steps.{fronts_of}
use Rattle.algebra.proofs.Running.{records-begin, records-added, records-refused}
use Rattle.algebra.proofs.run.Task.run.Goals as goal

pub loop-front-init : goal.loop-front-init
loop-front-init c =
    let x = c.args.self.now in
    records-begin x.operation _ x.s.now x.t.now x.start x.first _ c.args.out.now c.new-sum.result c.new-piece.result
    (ap fronts_of c.into_iter-front-iterator.ensures.into_iter_gives)
    (c.new-piece.ensures ∙ c.cube_len.ensures) x.stand.records c.new-sum.ensures.0 c.new-sum.ensures.1

pub returns-in_err-sum : goal.returns-in_err-sum
returns-in_err-sum c =
    let x = c.args.self.now in
    let back : c.from_residual.result ≡ Err c.in_err-sum.field-0.0 = search rules in
    rw back
    (records-refused x.operation (cube_len x.width) x.s.now x.t.now x.start _ c.args.out.now _ c.loop-front.out c.loop-front.sum c.loop-front.piece
    c.loop-front.invariant
    c.in-Some.front _ c.in-Some.ensures.steps c.add_stops.new.out _ _ (difference-own _ _ _ _ c.new.ensures c.unwrap-difference.ensures).model
    c.add_stops.ensures.adds _ c.in_err-sum.was)

pub loop-front-preserved : goal.loop-front-preserved
loop-front-preserved c =
    let x = c.args.self.now in
    records-added x.operation (cube_len x.width) x.s.now x.t.now x.start _ c.args.out.now _ c.loop-front.out c.loop-front.sum c.loop-front.piece
    c.loop-front.invariant
    c.in-Some.front _ c.in-Some.ensures.steps c.add_stops.new.out _ _ (difference-own _ _ _ _ c.new.ensures c.unwrap-difference.ensures).model
    c.add_stops.ensures.adds c.add_stops.new.piece c.add_stops.ensures.size _
    c.in_ok-sum.was
