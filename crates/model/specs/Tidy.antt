-- Tidying.
--   among c ks            == c equals one of the cuts ks
--   tidy_from b ks cs      == the base b with the cuts ks kept already and the cuts cs to take: one difference, or none where it is omitted
--   tidy d                == d tidied: one difference or none
--   each f xs             == the regions that f makes of xs, one after another
--   tidy_region r          == r with each difference tidied
use Rattle.std.specs.Prelude.{List, [], ◌∷◌, ◌++◌, Bool, false, ◌||◌, cond}
use Rattle.model.specs.Cube.{Cube, meet, shares, same}
use Rattle.model.specs.Difference.{Difference, less, Region}

abbrev pub among : Cube → List Cube → Bool
among c [] = false
among c (k ∷ ks) = same c k || among c ks

-- FORMAT 69
unfoldable pub tidy_from : Cube → List Cube → List Cube → Region
tidy_from base kept [] = less base kept ∷ []
tidy_from base kept (c ∷ cuts) =
    let cut = meet base c in
    let dropped = tidy_from base kept cuts in
    let taken = tidy_from base (kept ++ (cut ∷ [])) cuts in
    let met = cond (same cut base) [] (cond (among cut kept) dropped taken) in
    cond (shares base c) met dropped

-- FORMAT 69
abbrev pub tidy : Difference → Region
tidy d = tidy_from d.base [] d.cuts

abbrev pub each : {A : Type 0} → (A → Region) → List A → Region
each f [] = []
each f (x ∷ xs) = f x ++ each f xs

-- FORMAT 70
abbrev pub tidy_region : Region → Region
tidy_region r = each tidy r
