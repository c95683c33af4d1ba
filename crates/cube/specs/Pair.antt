-- Two cubes as bytes.
--   lies_in a b        == a lies in b, and both have as many bytes
--   and_bytes a b      == the AND of the bytes, as long as both have one
--   and_into a b out   == out with that AND over its front
use Rattle.std.specs.Prelude.{ℕ, List, [], ◌∷◌, Bool, ◌&&◌, eqb, length}
use Rattle.std.specs.Int.Bits.{bit_and}
use Rattle.model.specs.Cube.{within}
use Rattle.format.specs.Bytes.{codes}

unfoldable pub lies_in : List ℕ → List ℕ → Bool
lies_in a b = eqb (length a) (length b) && within (codes a) (codes b)

abbrev pub and_bytes : List ℕ → List ℕ → List ℕ
and_bytes [] b = []
and_bytes (x ∷ a) [] = []
and_bytes (x ∷ a) (y ∷ b) = bit_and x y ∷ and_bytes a b

abbrev pub and_into : List ℕ → List ℕ → List ℕ → List ℕ
and_into [] b out = out
and_into (x ∷ a) [] out = out
and_into (x ∷ a) (y ∷ b) [] = []
and_into (x ∷ a) (y ∷ b) (z ∷ out) = bit_and x y ∷ and_into a b out
