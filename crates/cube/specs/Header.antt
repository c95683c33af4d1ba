-- Header bytes as a cube.
--   spelled_cube bs        == the cube of the widest header that fixes each bit of bs, and 0 where bs has none
use Rattle.std.specs.Prelude.{ℕ, List, ◌++◌, map, take, replicate}
use Rattle.model.specs.Cube.{Cube, v0}
use Rattle.model.specs.Fields.{bit_code}
use Rattle.format.specs.Limits.{widest}
use Rattle.format.specs.Bytes.{bits}

unfoldable pub spelled_cube : List ℕ → Cube
spelled_cube bs = take widest (map bit_code (bits bs) ++ replicate widest v0)
