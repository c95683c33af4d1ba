-- `cube::pair::meets` meets its contract: what is missing of each place is gathered, and is 0 at the end.
use mathlib.Core.Path.{◌≡◌}
use mathlib.Core.Bool.{◌&&◌}
use lib.Dec.{eqb}
use lib.ListN.{drop}
use Rattle.model.specs.Cube.{shares}
use Rattle.format.specs.Bytes.{codes}
use Rattle.cube.proofs.pair.meets.Given as goal

abbrev pub invariant-loop-i : goal.invariant-loop-i
invariant-loop-i l = eqb l.bad 0 && shares (codes (drop l.i l.a)) (codes (drop l.i l.b)) ≡ shares (codes l.a) (codes l.b)
