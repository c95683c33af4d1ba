-- The record of an equality of fields.
--   most_pairs        == the most positions that have cuts, two to each
--   pairs p q n      == how many positions of fields at p and at q have cuts
--   equal_bytes w p q n == the record of an equality with the cuts of n positions
use Rattle.std.specs.Prelude.{ℕ, ◌*◌, ◌/◌, List, ◌∷◌, ◌++◌, cond, eqb, replicate}
use Rattle.model.specs.Cube.{free}
use Rattle.model.specs.Fields.{unequal}
use Rattle.format.specs.Limits.{most_cuts}
use Rattle.format.specs.Bytes.{cube_len}
use Rattle.format.specs.Records.{cubes_bytes, front_bytes}

-- FORMAT 85
abbrev pub most_pairs : ℕ
most_pairs = most_cuts / 2

-- FORMAT 83
abbrev pub pairs : ℕ → ℕ → ℕ → ℕ
pairs p q n = cond (eqb p q) 0 n

abbrev pub equal_bytes : ℕ → ℕ → ℕ → ℕ → List ℕ
equal_bytes w p q n = front_bytes (2 * n) (cube_len w) ++ cubes_bytes (replicate w free ∷ unequal w p q n)
