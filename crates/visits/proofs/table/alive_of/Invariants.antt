-- `visits::table::alive_of` meets its contract. The loop's invariant: x has the digits of those cuts of the first m rows
-- that the piece meets.
use Rattle.visits.specs.Loading.{Met}
use Rattle.format.specs.Bytes.{codes}
use Rattle.visits.proofs.table.alive_of.Given as goal

abbrev pub invariant-loop-m : goal.invariant-loop-m
invariant-loop-m l = Met l.cuts (codes l.piece) l.m l.x
