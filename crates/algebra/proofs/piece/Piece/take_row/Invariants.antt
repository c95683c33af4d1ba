-- `algebra::piece::Piece::take_row` meets its contract. The loop's invariant (`TakesOn`): the cuts passed are
-- taken, and those left are to be taken with the cuts that are kept.
use Prim.Native.Nat.{◌+◌, ◌≤◌}
use mathlib.Core.Path.{◌≡◌}
use lib.ListN.{length}
use Rattle.cube.specs.Row.{slices_of}
use Rattle.algebra.proofs.Taking.{TakesOn, AllLong}
use Rattle.algebra.proofs.piece.Piece.take_row.Given as goal

abbrev pub invariant-loop-cut : goal.invariant-loop-cut
invariant-loop-cut l =
    record {
      size : l.self.size ≡ l.initial.self.size;
      long : AllLong l.initial.self.size (slices_of l.cut-iterator);
      room : l.self.kept + length (slices_of l.cut-iterator) ≤ l.initial.self.kept + length (slices_of l.row);
      goes : TakesOn l.initial.self (slices_of l.row) l.self (slices_of l.cut-iterator);
    }
