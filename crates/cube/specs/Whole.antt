-- Cubes of whole bytes: the codes of q bytes, so that an unused place is one more free position, which changes nothing.
--   cube_of q bs              == the cube in the first q bytes of bs
--   whole_at q s at           == the cube of q bytes that stands in s at an offset
--   wholes_at q s at n        == n such cubes, from an offset on
use Rattle.std.specs.Prelude.{ℕ, zero, suc, ◌+◌, List, [], ◌∷◌, take, drop}
use Rattle.model.specs.Cube.{Cube}
use Rattle.format.specs.Bytes.{codes}

unfoldable pub cube_of : ℕ → List ℕ → Cube
cube_of q bs = codes (take q bs)

unfoldable pub whole_at : ℕ → List ℕ → ℕ → Cube
whole_at q s at = cube_of q (drop at s)

unfoldable pub wholes_at : ℕ → List ℕ → ℕ → ℕ → List Cube
wholes_at q s at zero = []
wholes_at q s at (suc n) = whole_at q s at ∷ wholes_at q s (at + q) n
