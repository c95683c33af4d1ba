-- The slips seen in training, each as the answer that it gets wrong. Slips 3 and 4 are about bytes: the figures P1 and
-- P3 hold them off.
--   slips          the right answers where slips 1, 2 and 5 go wrong
--   index-slips    the right indexes where one is taken for another
use mathlib.Core.Path.{◌≡◌, refl}
use mathlib.Core.List.{[], ◌∷◌, map}
use mathlib.Core.Bool.{true, false}
use Rattle.model.specs.Cube.{v0, v1, free}
use Rattle.model.specs.Difference.{less, in_region, held, first_holder}
use Rattle.model.specs.Algebra.{restored, subtraction}
use Rattle.model.specs.Walk.{nothing, visit, walk, walk_back, walks_less, stop, decide, undecided, empty}

pub slips :
    -- 1. Calling a difference empty only if one cut covers the base: ** less 1* less 0* has no header.
    ((walk (less (free ∷ free ∷ []) ((v1 ∷ free ∷ []) ∷ (v0 ∷ free ∷ []) ∷ []))).survivor ≡ nothing)
    × (decide 2 0 (walk (less (free ∷ free ∷ []) ((v1 ∷ free ∷ []) ∷ (v0 ∷ free ∷ []) ∷ []))) ≡ empty 2)
    × (decide 1 0 (walk (less (free ∷ free ∷ []) ((v1 ∷ free ∷ []) ∷ (v0 ∷ free ∷ []) ∷ []))) ≡ undecided 1 0)
    -- 2. Subtracting b and not restoring its cuts: 11 is in ** less (1* less 11), and 10 is not.
    × (in_region (subtraction (less (free ∷ free ∷ []) []) (less (v1 ∷ free ∷ []) ((v1 ∷ v1 ∷ []) ∷ []))) (true ∷ true ∷ []) ≡ true)
    × (in_region (subtraction (less (free ∷ free ∷ []) []) (less (v1 ∷ free ∷ []) ((v1 ∷ v1 ∷ []) ∷ []))) (true ∷ false ∷ []) ≡ false)
    -- 5. Leaving out a cut because it conflicts with one piece: 1* meets no 0*, and its cut 1* comes after.
    × (walk (less (v1 ∷ free ∷ []) ((v0 ∷ free ∷ []) ∷ (v1 ∷ free ∷ []) ∷ [])) ≡ record { pieces = 1; survivor = nothing })
unfolding restored visit decide
slips = (refl, refl, refl, refl, refl, refl)

pub index-slips :
    -- The last difference that holds the header: 11 is in 1* and in *1.
    (first_holder (less (v1 ∷ free ∷ []) [] ∷ less (free ∷ v1 ∷ []) [] ∷ []) (true ∷ true ∷ []) ≡ held 0)
    -- A difference counted from 1: 01 is in *1 alone.
    × (first_holder (less (v1 ∷ free ∷ []) [] ∷ less (free ∷ v1 ∷ []) [] ∷ []) (false ∷ true ∷ []) ≡ held 1)
    -- The difference with which the allowance ends: 1* less ** takes one piece, and what 1 does not pay for is ** behind it.
    × (stop 1 (map walk (less (v1 ∷ free ∷ []) ((free ∷ free ∷ []) ∷ []) ∷ less (free ∷ free ∷ []) [] ∷ [])) ≡ 1)
    × (stop 0 (map walk (less (v1 ∷ free ∷ []) ((free ∷ free ∷ []) ∷ []) ∷ less (free ∷ free ∷ []) [] ∷ [])) ≡ 0)
    -- The pieces without the skipped ones: of 1* in 1* less 00, less 0*, less 11 the first two cuts give back nothing, and 11 is piece 3.
    × (stop 9 (walks_less (less (v1 ∷ free ∷ []) []) (less (v1 ∷ free ∷ []) ((v0 ∷ v0 ∷ []) ∷ (v0 ∷ free ∷ []) ∷ (v1 ∷ v1 ∷ []) ∷ []))) ≡ 3)
    × (stop 1 (walks_less (less (v1 ∷ free ∷ []) []) (less (v1 ∷ free ∷ []) ((v0 ∷ v0 ∷ []) ∷ (v0 ∷ free ∷ []) ∷ (v1 ∷ v1 ∷ []) ∷ []))) ≡ 3)
unfolding visit walk_back stop
index-slips = (refl, refl, refl, refl, refl, refl)
