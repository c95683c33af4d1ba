use native.Mathlib.Omega.{arith}
use mathlib.Core.Path.{refl, ap, ◌∙◌}
use lib.ListN.{length}
use Rattle.cube.proofs.Rows.{slices-length}
use Rattle.algebra.proofs.Taking.{row-kept, row-omitted, row-taken, slices-long}
use Rattle.algebra.proofs.piece.Piece.take_row.Goals as goal

pub loop-cut-init : goal.loop-cut-init
loop-cut-init c =
    let row = c.args.row in
    record {
      size = refl;
      long = rw (c.into_iter-cut-iterator.ensures.into_iter_gives, ← c.requires.size) (slices-long row.size row.bytes.now row.count row.within);
      room = rw c.into_iter-cut-iterator.ensures.into_iter_gives (omega arith);
      goes = λ later. rw c.into_iter-cut-iterator.ensures.into_iter_gives;
    }

pub take-requires-clause-room : goal.take-requires-clause-room
take-requires-clause-room c =
    let row = c.args.row in
    omega (arith, c.loop-cut.invariant.room, ap length c.in-Some.ensures.steps, c.requires.room, slices-length row.size row.bytes.now row.count)

pub loop-cut-preserved : goal.loop-cut-preserved
loop-cut-preserved c =
    let v = c.loop-cut.invariant in
    let turn = row-kept c.args.self.now _ c.loop-cut.self _ v.goes _ _ c.in-Some.ensures.steps c.take.new.self _ c.take.ensures in
    record {
      size = c.take.ensures.size ∙ v.size;
      long = (rw c.in-Some.ensures.steps at v.long).1;
      room = omega (arith, v.room, c.take.ensures.few, ap length c.in-Some.ensures.steps);
      goes = turn c.in_ok-take.was;
    }

pub returns-in_err-take : goal.returns-in_err-take
returns-in_err-take c =
    let v = c.loop-cut.invariant in
    rw c.from_residual.ensures
    (row-omitted c.args.self.now _ c.loop-cut.self _ v.goes _ _ c.in-Some.ensures.steps c.take.new.self _ c.take.ensures c.in_err-take.was
    (omega (arith, v.room, c.take.ensures.few, ap length c.in-Some.ensures.steps)) (c.take.ensures.size ∙ v.size))

pub returns : goal.returns
returns c =
    let v = c.loop-cut.invariant in
    row-taken _ _ _ _ v.goes c.in-None.ensures.steps.0 (omega (arith, v.room)) v.size
