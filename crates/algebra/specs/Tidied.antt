-- A piece that is being tidied.
--   base_in p, kept_in p    == its base, and the cuts that are kept so far
--   difference_in p         == the difference of these
--   onward p m cs           == what becomes of the piece p with the cuts cs to take, where m says whether there is a piece
--   held p m                == the difference of the piece p, or none where there is no piece
--   Taken old cs new m      == the cuts cs, taken into the piece old, leave the piece new, or no piece
--   PutBehind p o old r new == a record ends at r that begins at o, and is no longer than the longest; where it fits a buffer that held old, the buffer is
--                              now new, with the record there of the difference of the piece p
use Rattle.std.specs.Prelude.{ℕ, ◌+◌, ◌*◌, ◌≤◌, ◌≡◌, List, [], ◌∷◌, ◌++◌, length, Option, Some, None}
use Rattle.model.specs.Cube.{Cube}
use Rattle.model.specs.Difference.{Difference, Region}
use Rattle.model.specs.Tidy.{tidy_from}
use Rattle.format.specs.Records.{difference_bytes}
use Rattle.cube.specs.Whole.{whole_at, wholes_at}
use Rattle.cube.specs.Lay.{laid}
use Rattle.region.specs.Writing.{longest_record, row_difference}
use Rattle.algebra.specs.declared.piece.Piece.{Piece}

abbrev pub base_in : Piece → Cube
base_in p = whole_at p.size p.cubes 0

abbrev pub kept_in : Piece → List Cube
kept_in p = wholes_at p.size p.cubes p.size p.kept

abbrev pub difference_in : Piece → Difference
difference_in p = row_difference p.kept p.size p.cubes

unfoldable pub onward : Piece → Option Unit → List Cube → Region
onward p None cs = []
onward p (Some u) cs = tidy_from (base_in p) (kept_in p) cs

abbrev pub held : Piece → Option Unit → Region
held p None = []
held p (Some u) = difference_in p ∷ []

pub record Taken (old : Piece) (cs : List Cube) (new : Piece) (m : Option Unit) : Type 0 where
  pub goes : (later : List Cube) → tidy_from (base_in old) (kept_in old) (cs ++ later) ≡ onward new m later
  pub few : new.kept ≤ old.kept + length cs
  pub size : new.size ≡ old.size

pub record PutBehind (p : Piece) (o : ℕ) (old : List ℕ) (r : ℕ) (new : List ℕ) : Type 0 where
  pub ends : r ≡ o + length (difference_bytes (4 * p.size) (difference_in p))
  pub low : r ≤ o + longest_record
  pub there : r ≤ length old → new ≡ laid old o (difference_bytes (4 * p.size) (difference_in p))
