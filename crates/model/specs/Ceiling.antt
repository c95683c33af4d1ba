-- The ceiling on the pieces of a walk (FORMAT 117): the smaller of two bounds over the cuts that meet the base, as lent.
-- The first goes cut by cut, 1 + f1 (1 + f2 (.. (1 + fk * 1))), in their order; the second is 1 + k * 2^s.
--   frees b c        == how many positions the cut c fixes and the base b leaves free
--   ceiling_from b cs == the first bound, of the base b with the cuts cs
--   meeting b cs     == k: how many of the cuts cs meet the base b
--   mark b c ms      == the marks ms, one for each position, and one more where the cut c fixes what the base b leaves free
--   unmarked b       == no mark, for each position of b
--   matters b cs     == the positions that b leaves free and at least one cut of cs that meets b fixes, marked
--   marks ms         == how many marks ms has
--   mattering b cs   == s: how many positions b leaves free and at least one meeting cut fixes
--   ceiling_over b cs == the second bound
--   ceiling d        == the ceiling of a difference, uncapped
--   most_pieces       == 4,294,967,295
--   capped n         == n, or most_pieces where n is at or above it
use Rattle.std.specs.Prelude.{ℕ, suc, ◌+◌, ◌*◌, ◌^◌, min, List, [], ◌∷◌, map, Bool, false, ◌||◌, cond, leb}
use Rattle.model.specs.Cube.{Cube, shares}
use Rattle.model.specs.Difference.{Difference}
use Rattle.model.specs.Walk.{opens}

-- FORMAT 117: f of a cut
unfoldable pub frees : Cube → Cube → ℕ
frees [] c = 0
frees (x ∷ b) [] = 0
frees (x ∷ b) (y ∷ c) = cond (opens x y) 1 0 + frees b c

-- FORMAT 117: the first bound
unfoldable pub ceiling_from : Cube → List Cube → ℕ
ceiling_from b [] = 1
ceiling_from b (c ∷ cs) =
    let inner = ceiling_from b cs in
    cond (shares b c) (1 + frees b c * inner) inner

-- FORMAT 117: k
unfoldable pub meeting : Cube → List Cube → ℕ
meeting b [] = 0
meeting b (c ∷ cs) =
    let n = meeting b cs in
    cond (shares b c) (suc n) n

-- FORMAT 117: s
unfoldable pub mark : Cube → Cube → List Bool → List Bool
mark [] c ms = ms
mark (x ∷ b) [] ms = ms
mark (x ∷ b) (y ∷ c) [] = []
mark (x ∷ b) (y ∷ c) (m ∷ ms) = (opens x y || m) ∷ mark b c ms

abbrev pub unmarked : Cube → List Bool
unmarked b = map (λ x. false) b

unfoldable pub matters : Cube → List Cube → List Bool
matters b [] = unmarked b
matters b (c ∷ cs) = cond (shares b c) (mark b c (matters b cs)) (matters b cs)

unfoldable pub marks : List Bool → ℕ
marks [] = 0
marks (m ∷ ms) =
    let n = marks ms in
    cond m (suc n) n

abbrev pub mattering : Cube → List Cube → ℕ
mattering b cs = marks (matters b cs)

-- FORMAT 117: the second bound
abbrev pub ceiling_over : Cube → List Cube → ℕ
ceiling_over b cs = 1 + meeting b cs * 2 ^ mattering b cs

-- FORMAT 117
abbrev pub ceiling : Difference → ℕ
ceiling d = min (ceiling_from d.base d.cuts) (ceiling_over d.base d.cuts)

-- FORMAT 118
abbrev pub most_pieces : ℕ
most_pieces = 4294967295

-- FORMAT 118
abbrev pub capped : ℕ → ℕ
capped n = cond (leb most_pieces n) most_pieces n
