-- Bytes in capital hex.
--   hex_digit n            == the ASCII code of the digit of a number below 16: `0` to `9`, then `A` to `F`
--   hex_digits s           == two digits for each byte of s: that of its upper half, then that of its lower half
--   with_digits old s      == a buffer that held old, with the digits of s over its front
--   fitting s old         == how many bytes of s a buffer that held old has room for, in digits
--   InHex s old r new     == a buffer that held old holds new, with the digits of the first bytes of s, as many as fit, over its front; r is how many digits they are
use Rattle.std.specs.Prelude.{ℕ, ◌+◌, ◌*◌, ◌/◌, ◌%◌, min, ◌≡◌, cond, List, [], ◌∷◌, ◌++◌, ltb, length, take, drop}

abbrev pub hex_digit : ℕ → ℕ
hex_digit n = cond (ltb n 10) (48 + n) (55 + n)

abbrev pub hex_digits : List ℕ → List ℕ
hex_digits [] = []
hex_digits (b ∷ s) = hex_digit (b / 16) ∷ hex_digit (b % 16) ∷ hex_digits s

abbrev pub with_digits : List ℕ → List ℕ → List ℕ
with_digits old s = hex_digits s ++ drop (length (hex_digits s)) old

abbrev pub fitting : List ℕ → List ℕ → ℕ
fitting s old = min (length s) (length old / 2)

pub record InHex (s old : List ℕ) (r : ℕ) (new : List ℕ) : Type 0 where
  pub count : r ≡ 2 * fitting s old
  pub bytes : new ≡ with_digits old (take (fitting s old) s)
