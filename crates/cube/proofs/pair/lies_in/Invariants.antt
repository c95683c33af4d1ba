-- `cube::pair::lies_in` meets its contract: what the second takes from the first is gathered, and is 0 at the end.
use mathlib.Core.Path.{◌≡◌}
use mathlib.Core.Bool.{◌&&◌}
use lib.Dec.{eqb}
use lib.ListN.{drop}
use Rattle.model.specs.Cube.{within}
use Rattle.format.specs.Bytes.{codes}
use Rattle.cube.proofs.pair.lies_in.Given as goal

abbrev pub invariant-loop-i : goal.invariant-loop-i
invariant-loop-i l = eqb l.bad 0 && within (codes (drop l.i l.a)) (codes (drop l.i l.b)) ≡ within (codes l.a) (codes l.b)
