-- Intersection and subtraction, before they are tidied.
--   intersection a b     == a and b: one difference, or none where the bases share no header
--   intersections r s    == r and s: each of the first in order with each of the second in order
--   restored a cs        == what the cuts cs of a subtracted difference give back of a
--   subtraction a b      == the pieces of a less b, untidied
--   subtractions r b     == r less b: the pieces for each difference of r in order
use Rattle.std.specs.Prelude.{List, [], ◌∷◌, ◌++◌, cond}
use Rattle.model.specs.Cube.{Cube, meet, shares}
use Rattle.model.specs.Difference.{Difference, less, Region}
use Rattle.model.specs.Tidy.{each}

-- FORMAT 72, 73
-- (a \ A) ∩ (b \ B) = (a ∩ b) \ (A ∪ B)
unfoldable pub intersection : Difference → Difference → Region
intersection a b =
    let both = less (meet a.base b.base) (a.cuts ++ b.cuts) in
    cond (shares a.base b.base) (both ∷ []) []

-- FORMAT 74
abbrev pub intersections : Region → Region → Region
intersections r s = each (λ a. each (intersection a) s) r

-- FORMAT 76
unfoldable pub restored : Difference → List Cube → Region
restored a [] = []
restored a (c ∷ cs) =
    let back = less (meet a.base c) a.cuts in
    cond (shares a.base c) (back ∷ restored a cs) (restored a cs)

-- FORMAT 75, and then 76
-- (a \ A) \ (b \ B) = (a \ (A ∪ b)) ∪ ((a ∩ B) \ A)
abbrev pub subtraction : Difference → Difference → Region
subtraction a b = less a.base (a.cuts ++ (b.base ∷ [])) ∷ restored a b.cuts

-- FORMAT 77
abbrev pub subtractions : Region → Difference → Region
subtractions r b = each (λ a. subtraction a b) r
