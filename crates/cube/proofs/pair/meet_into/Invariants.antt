-- `cube::pair::meet_into` meets its contract. The loop's invariant: the meet of the bytes passed stands over the front of out.
use mathlib.Core.Path.{◌≡◌}
use lib.ListN.{take}
use Rattle.cube.specs.Pair.{and_into}
use Rattle.cube.proofs.pair.meet_into.Given as goal

abbrev pub invariant-loop-i : goal.invariant-loop-i
invariant-loop-i l = l.out ≡ and_into (take l.i l.a) (take l.i l.b) l.initial.out
