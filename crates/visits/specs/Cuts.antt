-- Cubes as the walk has them: whole bytes, so that an unused place is one more free position, which changes nothing.
--   Given p i v r      == the 80 bytes r are the piece p with the code v at position i
--   cubes_of r         == the cubes of the row r
--   FirstCutOf r c s   == c is the first cut of the row r, and s the row of the others
--   SplitFirst r x     == x is the first cut of the row r, with the row of the others, or none where it has none
--   NextCut r p c s    == a visit of p with the row r passes to the cut c, which shares a header with p; the row s is left then
--   FirstMet r p x     == x is the cut that a visit of p passes to, with the row that is left, or none where no cut shares a header with p
use Rattle.std.specs.Prelude.{ℕ, suc, ◌*◌, ◌<◌, ◌≡◌, List, [], ◌∷◌, true, length, set, map, Option, MatchOption}
use Rattle.std.specs.Borrow.{Bor}
use Rattle.model.specs.Cube.{Cube, shares}
use Rattle.model.specs.Walk.{visit}
use Rattle.format.specs.Bytes.{code_of, codes}
use Rattle.cube.specs.Whole.{cube_of}
use Rattle.cube.specs.Row.{slices_of}
use Rattle.cube.specs.declared.row.Row.{Row}

pub record Given (p : List ℕ) (i v : ℕ) (r : List ℕ) : Type 0 where
  pub long : length r ≡ 80
  pub cube : (q : ℕ) → i < 4 * q → cube_of q r ≡ set (cube_of q p) i (code_of v)

unfoldable pub cubes_of : Row → List Cube
cubes_of r = map codes (slices_of r)

pub record FirstCutOf (r : Row) (c : List ℕ) (s : Row) : Type 0 where
  pub cubes : cubes_of r ≡ codes c ∷ cubes_of s
  pub long : length c ≡ r.size
  pub size : s.size ≡ r.size
  pub count : r.count ≡ suc s.count

abbrev pub SplitFirst : Row → Option (Bor (List ℕ) × Row) → Type 0
SplitFirst r x = MatchOption x (cubes_of r ≡ []) (λ y. FirstCutOf r y.0.now y.1)

pub record NextCut (r : Row) (p : Cube) (c : List ℕ) (s : Row) : Type 0 where
  pub same : visit (cubes_of r) p ≡ visit (codes c ∷ cubes_of s) p
  pub meets : shares p (codes c) ≡ true
  pub long : length c ≡ r.size
  pub size : s.size ≡ r.size
  pub fewer : s.count < r.count

abbrev pub FirstMet : Row → Cube → Option (Bor (List ℕ) × Row) → Type 0
FirstMet r p x = MatchOption x (visit (cubes_of r) p ≡ visit [] p) (λ y. NextCut r p y.0.now y.1)
