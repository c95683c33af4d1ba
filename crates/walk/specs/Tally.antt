-- The ceiling of a difference, counted over its cuts from the last one on.
--   lost b u         == the positions that the cube b leaves free and the cube u does not, marked
--   Tallied b cs t   == t is the tally of the cuts cs of a difference whose base is in the bytes b: the first bound, capped; how many of them meet
--                       the base; and a cube that leaves a position free, of those that the base leaves free, exactly where it does not matter
use Rattle.std.specs.Prelude.{ℕ, ◌≡◌, List, [], ◌∷◌, Bool, not, ◌&&◌, length}
use Rattle.model.specs.Cube.{Cube}
use Rattle.model.specs.Ceiling.{ceiling_from, meeting, matters, capped}
use Rattle.format.specs.Bytes.{codes, is_free}
use Rattle.cube.specs.Whole.{cube_of}
use Rattle.walk.specs.declared.tally.Tally.{Tally}

unfoldable pub lost : Cube → Cube → List Bool
lost [] u = []
lost (x ∷ b) [] = []
lost (x ∷ b) (y ∷ u) = (is_free x && not (is_free y)) ∷ lost b u

pub record Tallied (b : List ℕ) (cs : List Cube) (t : Tally) : Type 0 where
  pub nested : t.nested ≡ capped (ceiling_from (codes b) cs)
  pub met : t.met ≡ meeting (codes b) cs
  pub kept : lost (codes b) (cube_of (length b) t.kept) ≡ matters (codes b) cs
