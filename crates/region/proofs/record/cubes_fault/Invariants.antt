-- `region::record::cubes_fault` meets its contract. The loop's invariant: the cubes left have the fault of all.
use mathlib.Core.Path.{◌≡◌}
use Rattle.cube.specs.Row.{slices_of}
use Rattle.region.specs.Reader.{slices_fault}
use Rattle.region.proofs.record.cubes_fault.Given as goal

abbrev pub invariant-loop-cube : goal.invariant-loop-cube
invariant-loop-cube l = slices_fault l.w (slices_of l.cube-iterator) ≡ slices_fault l.w (slices_of l.fn.cubes)
