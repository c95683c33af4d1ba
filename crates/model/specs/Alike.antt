-- When two pieces have the same walk, but for the piece that survives.
--   opens_all p c     == for each position, whether the piece p leaves free what the cut c fixes
--   Alike cs p q     == p and q meet the same of the cuts cs, and of each that they meet they leave the same positions open
--   SameWalk u v     == the walks u and v visit as many pieces, and in both nothing survives or in neither
use Rattle.std.specs.Prelude.{◌≡◌, List, [], ◌∷◌, Bool, true}
use Rattle.model.specs.Cube.{Cube, shares}
use Rattle.model.specs.Walk.{opens, nothing, Found}

abbrev pub opens_all : Cube → Cube → List Bool
opens_all [] c = []
opens_all (x ∷ p) [] = []
opens_all (x ∷ p) (y ∷ c) = opens x y ∷ opens_all p c

abbrev pub Alike : List Cube → Cube → Cube → Type 0
Alike [] p q = Unit {0}
Alike (c ∷ cs) p q = (shares p c ≡ shares q c) × (shares p c ≡ true → opens_all p c ≡ opens_all q c) × Alike cs p q

abbrev pub SameWalk : Found → Found → Type 0
SameWalk u v = (u.pieces ≡ v.pieces) × (u.survivor ≡ nothing → v.survivor ≡ nothing) × (v.survivor ≡ nothing → u.survivor ≡ nothing)
