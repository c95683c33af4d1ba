-- Cubes and differences of W positions without a code `none` (FORMAT 4).
--   All P xs     == P holds of each of xs
--   Sized w c    == the cube c has w positions, and gives each of them 0, 1 or free
--   Good w d     == the base and the cuts of d are such cubes
use Rattle.std.specs.Prelude.{ℕ, ◌≡◌, List, [], ◌∷◌, true, length}
use Rattle.model.specs.Cube.{Cube, solid}
use Rattle.model.specs.Difference.{Difference}

abbrev pub All : {A : Type 0} → (A → Type 0) → List A → Type 0
All P [] = Unit {0}
All P (x ∷ xs) = P x × All P xs

-- FORMAT 4
pub record Sized (w : ℕ) (c : Cube) : Type 0 where
  pub wide : length c ≡ w
  pub filled : solid c ≡ true

pub record Good (w : ℕ) (d : Difference) : Type 0 where
  pub base : Sized w d.base
  pub cuts : All (Sized w) d.cuts
