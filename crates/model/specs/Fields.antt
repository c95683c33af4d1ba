-- Prefix constraints and equality of fields. A field starts at s and has n positions.
--   bit_code b              == the code that fixes the bit b
--   same_bits u v           == u and v are the same bits
--   prefix_cube w s m v     == the cube of w positions that fixes those from s on to the first m bits of v
--   apart w p q x y        == the cube of w positions with the code x at p and y at q
--   unequal w p q n        == for each of n positions from p and from q on, the cut with 0 and 1, then the cut with 1 and 0
--   fields_equal w p q n    == the headers of w positions whose fields of n positions at p and at q are equal
use Rattle.std.specs.Prelude.{ℕ, zero, suc, ◌+◌, ◌-◌, List, [], ◌∷◌, ◌++◌, map, Bool, true, false, ◌&&◌, cond, eqb, take, set, replicate}
use Rattle.std.specs.Bool.{beq}
use Rattle.model.specs.Cube.{Header, Code, v0, v1, free, Cube}
use Rattle.model.specs.Difference.{Difference, less}

abbrev pub bit_code : Bool → Code
bit_code true = v1
bit_code false = v0

-- equality of bit lists: of one length, and bit by bit
abbrev pub same_bits : Header → Header → Bool
same_bits [] [] = true
same_bits [] (b ∷ v) = false
same_bits (a ∷ u) [] = false
same_bits (a ∷ u) (b ∷ v) = beq a b && same_bits u v

-- FORMAT 81
unfoldable pub prefix_cube : ℕ → ℕ → ℕ → Header → Cube
prefix_cube w s m value = replicate s free ++ (map bit_code (take m value) ++ replicate (w - (s + m)) free)

-- FORMAT 84: a cut
abbrev pub apart : ℕ → ℕ → ℕ → Code → Code → Cube
apart w p q x y = set (set (replicate w free) p x) q y

-- FORMAT 84, 86
unfoldable pub unequal : ℕ → ℕ → ℕ → ℕ → List Cube
unequal w p q zero = []
unequal w p q (suc n) = apart w p q v0 v1 ∷ apart w p q v1 v0 ∷ unequal w (p + 1) (q + 1) n

-- FORMAT 83
unfoldable pub fields_equal : ℕ → ℕ → ℕ → ℕ → Difference
fields_equal w p q n = less (replicate w free) (cond (eqb p q) [] (unequal w p q n))
