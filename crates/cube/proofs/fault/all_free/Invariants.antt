-- `cube::fault::all_free` meets its contract: what differs from 255 is gathered, and is 0 at the end.
use mathlib.Core.Path.{◌≡◌}
use mathlib.Core.Bool.{◌&&◌}
use lib.Dec.{eqb}
use lib.ListN.{drop}
use Rattle.format.specs.Bytes.{codes, all_free}
use Rattle.cube.proofs.fault.all_free.Given as goal

abbrev pub invariant-loop-b : goal.invariant-loop-b
invariant-loop-b l = eqb l.bad 0 && all_free (codes (drop l.b-index l.c)) ≡ all_free (codes l.c)
