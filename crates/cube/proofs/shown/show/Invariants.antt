-- `cube::shown::show` meets its contract. The loop's invariant: the first j bytes of the header are written.
use mathlib.Core.Path.{◌≡◌}
use Rattle.format.specs.Bytes.{header_bytes}
use Rattle.format.specs.Told.{over}
use Rattle.cube.proofs.Showing.{whole}
use Rattle.cube.proofs.shown.show.Given as goal

abbrev pub invariant-loop-j : goal.invariant-loop-j
invariant-loop-j l = l.out ≡ over l.initial.out (header_bytes l.j (whole l.piece))
