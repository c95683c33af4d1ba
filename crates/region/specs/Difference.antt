-- A difference in lent bytes.
--   difference_of d      == the difference d, of whole bytes
--   held_in h d          == the header that h spells lies in the base of d and in none of its cuts, by bytes
--   DifferenceOf q s f d == d is the difference of the record that stands in s with the front f, its cubes of q bytes each
--   DifferenceIs q s f x == x is that difference, or none where no such record stands there
--   DifferenceAt w s at d == d is the difference of the record of w positions in s at an offset
use Rattle.std.specs.Prelude.{ℕ, ◌≡◌, ◌+◌, ◌≤◌, Bool, not, ◌&&◌, List, length, map, take, drop, Option, MatchOption}
use Rattle.std.specs.List.{list_any}
use Rattle.model.specs.Difference as model
use Rattle.format.specs.Limits.{widest_cube}
use Rattle.format.specs.Bytes.{codes, cube_len}
use Rattle.cube.specs.Pair.{lies_in}
use Rattle.cube.specs.Row.{slices, slices_of}
use Rattle.region.specs.declared.front.Front.{Front}
use Rattle.region.specs.declared.difference.Difference.{Difference}
use Rattle.region.specs.Front.{front_at, Stands, whole_difference}

abbrev pub difference_of : Difference → model.Difference
difference_of d = model.less (codes d.base.now) (map codes (slices_of d.cuts))

unfoldable pub held_in : List ℕ → Difference → Bool
held_in h d =
    let header = take (length d.base.now) h in
    lies_in header d.base.now && not (list_any (lies_in header) (slices_of d.cuts))

pub record DifferenceOf (q : ℕ) (s : List ℕ) (f : Front) (d : Difference) : Type 0 where
  pub stands : Stands q s f
  pub model : difference_of d ≡ whole_difference q s f
  pub size : length d.base.now ≡ q
  pub base : d.base.now ≡ take q (drop f.base s)
  pub cuts : slices_of d.cuts ≡ slices q (drop (f.base + q) s) f.cuts

abbrev pub DifferenceIs : ℕ → List ℕ → Front → Option Difference → Type 0
DifferenceIs q s f x = MatchOption x (q ≤ widest_cube → ¬ (Stands q s f)) (DifferenceOf q s f)

abbrev pub DifferenceAt : ℕ → List ℕ → ℕ → Difference → Type 0
DifferenceAt w s at d = DifferenceOf (cube_len w) s (front_at s at) d
