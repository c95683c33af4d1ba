-- Records as they are lent: their cubes are whole bytes.
--   less_cuts a b       == the cuts of the first piece of "a less b": those of a, and then the base of b
use Rattle.std.specs.Prelude.{[], ◌∷◌, ◌++◌, List}
use Rattle.model.specs.Cube.{Cube}
use Rattle.model.specs.Difference.{Difference}

abbrev pub less_cuts : Difference → Difference → List Cube
less_cuts a b = a.cuts ++ (b.base ∷ [])
