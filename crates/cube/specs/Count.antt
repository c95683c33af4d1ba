-- How many positions a cube leaves free: the byte table has the number for each byte (FORMAT 19).
--   free_count c    == the number of codes `free` in c
use Rattle.std.specs.Prelude.{ℕ, suc, [], ◌∷◌}
use Rattle.model.specs.Cube.{Cube, none, v0, v1, free}

abbrev pub free_count : Cube → ℕ
free_count [] = 0
free_count (none ∷ c) = free_count c
free_count (v0 ∷ c) = free_count c
free_count (v1 ∷ c) = free_count c
free_count (free ∷ c) = suc (free_count c)
