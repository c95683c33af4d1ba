-- Codes in the bytes of a cube. A position's place in its byte has the weight 64, 16, 4 or 1.
--   code_at s at i    == the code at position i of the cube that stands in s at an offset, as a number; 0 where s has no byte
--   recoded b w v    == the byte b with the code v at the place of weight w
use Rattle.std.specs.Prelude.{ℕ, ◌+◌, ◌-◌, ◌*◌, ◌/◌, ◌%◌, ◌^◌, List, get_or}

unfoldable pub code_at : List ℕ → ℕ → ℕ → ℕ
code_at s at i = get_or s (at + i / 4) 0 / 4 ^ (3 - i % 4) % 4

abbrev pub recoded : ℕ → ℕ → ℕ → ℕ
recoded b w v = b - b / w % 4 * w + v * w
