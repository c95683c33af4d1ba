-- `cube::header::spelled` meets its contract. The loop's invariant: the header bytes passed are spelled, and every other bit is zero.
use Rattle.cube.proofs.Spelling.{Spelt}
use Rattle.cube.proofs.header.spelled.Given as goal

abbrev pub invariant-loop-i : goal.invariant-loop-i
invariant-loop-i l = Spelt l.h l.i l.c
