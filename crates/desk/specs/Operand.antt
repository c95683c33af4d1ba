-- What the digits of an operand spell.
--   spelled s k       == the byte that the digits 2k and 2k + 1 of s spell in hex
use Rattle.std.specs.Prelude.{ℕ, ◌+◌, ◌*◌, List, slice_index}
use Rattle.std.specs.Char.{digit_value}

abbrev pub spelled : List ℕ → ℕ → ℕ
spelled s k = 16 * digit_value (slice_index s (2 * k)) + digit_value (slice_index s (2 * k + 1))
