-- Which of some differences decides, by its index, counted from 0.
--   difference_of r i   == the difference of index i in the region r
--   FirstIn r h i      == the difference of index i is there and has the header h in it, and none before it has
--   Passed r i         == the difference of index i is there, and no header is in any before it
--   pieces_of vs        == the pieces of the walks vs, added up
--   Unpaid n vs i      == the allowance n pays for the walks before that of index i, and not for those up to it
use Rattle.std.specs.Prelude.{ℕ, suc, ◌+◌, ◌≤◌, ◌<◌, ◌≡◌, List, [], ◌∷◌, true, false, length, get_or, take}
use Rattle.model.specs.Cube.{Header}
use Rattle.model.specs.Difference.{Difference, less, Region, in_difference}
use Rattle.model.specs.Walk.{Found}

abbrev pub difference_of : Region → ℕ → Difference
difference_of r i = get_or r i (less [] [])

-- FORMAT 151
pub record FirstIn (r : Region) (h : Header) (i : ℕ) : Type 0 where
  pub there : i < length r
  pub holding : in_difference (difference_of r i) h ≡ true
  pub before : (j : ℕ) → j < i → in_difference (difference_of r j) h ≡ false

-- FORMAT 152
pub record Passed (r : Region) (i : ℕ) : Type 0 where
  pub there : i < length r
  pub before : (j : ℕ) → j < i → (h : Header) → in_difference (difference_of r j) h ≡ false

abbrev pub pieces_of : List Found → ℕ
pieces_of [] = 0
pieces_of (v ∷ vs) = v.pieces + pieces_of vs

-- FORMAT 152
pub record Unpaid (n : ℕ) (vs : List Found) (i : ℕ) : Type 0 where
  pub paid : pieces_of (take i vs) ≤ n
  pub more : n < pieces_of (take (suc i) vs)
