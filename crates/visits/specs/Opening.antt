-- Where a cut opens a piece: the positions that the cut fixes and the piece leaves free.
--   first_open p c      == the first such position, and as many as p has where there is none
--   FirstOpen p c r     == r is that position, where there is one
--   is_fixed x          == the code x is a value
--   bit b              == 1 where b is true, else 0
use Rattle.std.specs.Prelude.{ℕ, suc, ◌≤◌, ◌<◌, ◌≡◌, [], ◌∷◌, Bool, true, false, cond, length, Option}
use Rattle.std.specs.Option.{ForSome, ForNone}
use Rattle.model.specs.Cube.{Code, none, v0, v1, free, Cube}
use Rattle.model.specs.Walk.{opens}

unfoldable pub first_open : Cube → Cube → ℕ
first_open [] c = 0
first_open (x ∷ p) [] = suc (length p)
first_open (x ∷ p) (y ∷ c) = let later = suc (first_open p c) in cond (opens x y) 0 later

pub record FirstOpen (p c : Cube) (r : Option ℕ) : Type 0 where
  pub found : ForSome r (λ i. (i ≡ first_open p c) × (i < length p))
  pub none_left : ForNone r (length p ≤ first_open p c)

abbrev pub is_fixed : Code → Bool
is_fixed none = false
is_fixed v0 = true
is_fixed v1 = true
is_fixed free = false

abbrev pub bit : Bool → ℕ
bit b = cond b 1 0
