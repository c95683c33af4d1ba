-- Cubes with unused places behind their positions, taken as free positions.
--   pad u c                     == the cube c with u free places behind it
--   pad_survivor u s, pad_found u v, pad_difference u d == what survived, a walk, a difference, with their cubes padded
use Rattle.std.specs.Prelude.{ℕ, ◌++◌, map, replicate}
use Rattle.model.specs.Cube.{free, Cube}
use Rattle.model.specs.Difference.{Difference, less}
use Rattle.model.specs.Walk.{Survivor, nothing, piece, Found}

abbrev pub pad : ℕ → Cube → Cube
pad u c = c ++ replicate u free

abbrev pub pad_survivor : ℕ → Survivor → Survivor
pad_survivor u nothing = nothing
pad_survivor u (piece p) = piece (pad u p)

abbrev pub pad_found : ℕ → Found → Found
pad_found u v = record { pieces = v.pieces; survivor = pad_survivor u v.survivor }

abbrev pub pad_difference : ℕ → Difference → Difference
pad_difference u d = less (pad u d.base) (map (pad u) d.cuts)
