-- `algebra::piece::Piece::make` meets its contract.
use Prim.Native.Nat.{◌+◌, ◌≤◌}
use native.Mathlib.Omega.{arith}
use Rattle.algebra.proofs.Taking.{row-few}
use Rattle.algebra.proofs.Pieces.{made-none, made-omitted, made-piece}
use Rattle.algebra.proofs.piece.Piece.make.Goals as goal

pub returns-in_err-begin : goal.returns-in_err-begin
returns-in_err-begin c = let x = c.args in rw c.from_residual.ensures (made-none _ _ x.t.now x.stop x.self.now _ _ c.begin.ensures c.in_err-begin.was)

pub returns-in_err-take_row : goal.returns-in_err-take_row
returns-in_err-take_row c =
    let x = c.args in
    rw c.from_residual-in_err-take_row.ensures
    (made-omitted _ _ x.t.now x.stop x.self.now c.begin.new.self _ c.begin.ensures c.in_ok-begin.was c.take_row.new.self _ c.take_row.ensures
    c.in_err-take_row.was)

pub take_row-requires-2-clause-room : goal.take_row-requires-2-clause-room
take_row-requires-2-clause-room c =
    let few : c.take_row.new.self.kept ≤ c.begin.new.self.kept + c.args.difference.cuts.count = row-few _ _ _ c.take_row.ensures in
    omega (arith, few, c.begin.ensures.none, c.args.difference.few, c.requires.room.few)

pub returns : goal.returns
returns c =
    let x = c.args in
    made-piece _ _ x.t.now x.stop x.self.now c.begin.new.self _ c.begin.ensures c.in_ok-begin.was c.take_row.new.self _ c.take_row.ensures c.in_ok-take_row.was
    c.take_row-2.new.self _ c.take_row-2.ensures
