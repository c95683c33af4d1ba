-- Whether a header is in differences of a file, by bytes: h is the header spelled as the cube that fixes each of its bits, and it is asked of each cube.
--   cube_in q h s a      == the first q bytes of h, as a cube, lie in the q bytes of s at an offset
--   any_in q h s a k     == they lie in one of the k cubes from an offset on
--   held_by q h s a k    == they lie in the first cube from an offset on and in none of the k after it
--   in_record w h s at   == they lie in the base of the record at an offset, of w positions, and in none of its cuts
--   first_record w h s os == the first of the offsets os that in_record holds at
--   holder_of x          == the index of the first holder, or none, as the model has it
--   or_held x b n        == the first holder where x is that of n differences, and b is whether the difference after them holds the header
use Rattle.std.specs.Prelude.{ℕ, zero, suc, ◌+◌, List, [], ◌∷◌, Bool, false, cond, not, ◌&&◌, ◌||◌, take, drop, Option, None, Some}
use Rattle.model.specs.Difference.{Holder, unheld, held, further}
use Rattle.format.specs.Bytes.{cube_len}
use Rattle.format.specs.Records.{count_at, base_at}
use Rattle.cube.specs.Pair.{lies_in}

unfoldable pub cube_in : ℕ → List ℕ → List ℕ → ℕ → Bool
cube_in q h s a = lies_in (take q h) (take q (drop a s))

unfoldable pub any_in : ℕ → List ℕ → List ℕ → ℕ → ℕ → Bool
any_in q h s a zero = false
any_in q h s a (suc k) = cube_in q h s a || any_in q h s (a + q) k

unfoldable pub held_by : ℕ → List ℕ → List ℕ → ℕ → ℕ → Bool
held_by q h s a k = cube_in q h s a && not (any_in q h s (a + q) k)

abbrev pub in_record : ℕ → List ℕ → List ℕ → ℕ → Bool
in_record w h s at = held_by (cube_len w) h s (base_at s at) (count_at s at)

abbrev pub first_record : ℕ → List ℕ → List ℕ → List ℕ → Holder
first_record w h s [] = unheld
first_record w h s (at ∷ os) = cond (in_record w h s at) (held 0) (further (first_record w h s os))

abbrev pub holder_of : Option ℕ → Holder
holder_of None = unheld
holder_of (Some i) = held i

abbrev pub or_held : Holder → Bool → ℕ → Holder
or_held unheld b n = cond b (held n) unheld
or_held (held i) b n = held i
