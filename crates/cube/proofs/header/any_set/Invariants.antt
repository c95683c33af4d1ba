-- `cube::header::any_set` meets its contract: the bits are gathered, and are 0 at the end exactly when none is set.
use mathlib.Core.Path.{◌≡◌}
use mathlib.Core.Bool.{not, ◌&&◌}
use lib.Dec.{eqb}
use lib.ListN.{drop}
use Rattle.format.specs.Bytes.{bits, any_bit}
use Rattle.cube.proofs.header.any_set.Given as goal

abbrev pub invariant-loop-b : goal.invariant-loop-b
invariant-loop-b l = eqb l.set 0 && not (any_bit (bits (drop l.b-index l.h))) ≡ not (any_bit (bits l.h))
