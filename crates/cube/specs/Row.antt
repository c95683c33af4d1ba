-- Cubes that stand one after another in lent bytes.
--   slices q bs n            == the first n slices of q bytes of bs
--   slices_of r              == the slices of the row r, one for each of its cubes
--   RowOf s at q n r         == r is the row of the n cubes of q bytes that stand in s from an offset on
--   RowIs s at q n x         == x is that row, or none where they are not all there
use Rattle.std.specs.Prelude.{ℕ, zero, suc, ◌≡◌, ◌+◌, ◌*◌, ◌≤◌, ◌<◌, List, [], ◌∷◌, length, take, drop, Option, MatchOption}
use Rattle.std.specs.Borrow.{Bor}
use Rattle.cube.specs.declared.row.Row.{Row}

abbrev pub slices : ℕ → List ℕ → ℕ → List (List ℕ)
slices q bs zero = []
slices q bs (suc n) = take q bs ∷ slices q (drop q bs) n

abbrev pub slices_of : Row → List (List ℕ)
slices_of r = slices r.size r.bytes.now r.count

pub record RowOf (s : List ℕ) (at q n : ℕ) (r : Row) : Type 0 where
  pub within : at + n * q ≤ length s
  pub bytes : r.bytes.now ≡ drop at s
  pub size : r.size ≡ q
  pub count : r.count ≡ n

abbrev pub RowIs : Bor (List ℕ) → ℕ → ℕ → ℕ → Option Row → Type 0
RowIs s at q n x = MatchOption x (length s.now < at + n * q) (RowOf s.now at q n)
