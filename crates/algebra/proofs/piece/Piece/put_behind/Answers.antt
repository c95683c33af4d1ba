-- `algebra::piece::Piece::put_behind` meets its contract.
use Prim.Native.Nat.{◌≤◌}
use native.Mathlib.Omega.{arith}
use Rattle.std.proofs.Common.{rules}
use Rattle.region.specs.Writing.{record_len, longest_record}
use Rattle.region.proofs.Writing.{record-longest}
use Rattle.algebra.proofs.Pieces.{record-out, record-put-behind}
use Rattle.algebra.proofs.piece.Piece.put_behind.Goals as goal

pub overflow_add-end : goal.overflow_add-end
overflow_add-end c =
    let longest : let p = c.args.self.now in record_len p.kept p.size ≤ longest_record = record-longest c.args.self.now.kept c.args.self.now.size
    c.requires.few c.args.self.now.narrow in
    omega (arith, longest, c.record_len.ensures, c.requires.low)

pub returns-then-end-out : goal.returns-then-end-out
returns-then-end-out c =
    record-put-behind c.args.self.now c.requires.few (omega arith) (λ i. search rules) c.args.at _ c.record_len.ensures c.args.out.now _
    c.if-end-out.true c.put_record.ensures

pub returns-else-end-out : goal.returns-else-end-out
returns-else-end-out c =
    record-out c.args.self.now c.requires.few (omega arith) (λ i. search rules) c.args.at _ c.record_len.ensures c.args.out.now c.if-end-out.false
