-- Which difference decided, in the cases of docs/TRAINING.md and some more (FORMAT 150 to 154).
--   index-figures    the index of each sort of answer of the calls that have one
use Prim.Native.Nat.{ℕ}
use mathlib.Core.Path.{◌≡◌, refl}
use mathlib.Core.List.{List, [], ◌∷◌}
use Rattle.model.specs.Algebra.{restored}
use Rattle.model.specs.Walk.{visit, walk_back, stop, decide}
use Rattle.answer.specs.Answer.{no, holding, counted, undecided, showing}
use Rattle.format.specs.Rows.{passes, outcome}
use Rattle.format.specs.Bytes.{read_header, header_bytes, read_cube, cube_fault, lent_fault}
use Rattle.format.specs.Records.{count_at, front_len, base_at, cube_at, cubes_at, cubes_fault, first_at, width_fault, difference_fault}
use Rattle.format.specs.Files.{differences_from, read_file}
use Rattle.format.specs.Told.{silent}
use Rattle.format.specs.Calls.{diff_member, region_member, diff_empty, region_empty, diff_in}

-- W 2: the record of 1*, and that of 1* less 00, less 0*, less 11
abbrev half : List ℕ
half = 4 ∷ 0 ∷ 2 ∷ 0 ∷ 0 ∷ 0xBF ∷ []

abbrev less_three : List ℕ
less_three = 7 ∷ 0 ∷ 2 ∷ 0 ∷ 3 ∷ 0xBF ∷ 0x5F ∷ 0x7F ∷ 0xAF ∷ []

-- W 2: the file of 1* and *1, and that of 1* less **, which is covered, and **
abbrev halves : List ℕ
halves = 4 ∷ 0 ∷ 1 ∷ 0 ∷ 2 ∷ 0 ∷ 4 ∷ 0 ∷ 2 ∷ 0 ∷ 0 ∷ 0xBF ∷ 4 ∷ 0 ∷ 2 ∷ 0 ∷ 0 ∷ 0xEF ∷ []

abbrev covered_first : List ℕ
covered_first = 4 ∷ 0 ∷ 1 ∷ 0 ∷ 2 ∷ 0 ∷ 5 ∷ 0 ∷ 2 ∷ 0 ∷ 1 ∷ 0xBF ∷ 0xFF ∷ 4 ∷ 0 ∷ 2 ∷ 0 ∷ 0 ∷ 0xFF ∷ []

pub index-figures :
    -- 11 is in both of 1* and *1, 01 in the second, 00 in none
    (region_member halves (0xC0 ∷ []) ≡ silent (holding 0))
    × (region_member halves (0x40 ∷ []) ≡ silent (holding 1))
    × (region_member halves (0 ∷ []) ≡ silent no)
    -- 10 is in 1*, and 00 is not
    × (diff_member 2 half (0x80 ∷ []) ≡ silent (holding 0))
    × (diff_member 2 half (0 ∷ []) ≡ silent no)
    -- 1* by itself is shown, or not paid for
    × (diff_empty 2 half 9 1 ≡ record { answer = showing 1 1 0; bytes = 0x80 ∷ [] })
    × (diff_empty 2 half 0 1 ≡ silent (undecided 0 0))
    -- an allowance of 0 does not pay for the first of two, 1 not for the second, and 2 shows 00 in the second
    × (region_empty covered_first 0 1 ≡ silent (undecided 0 0))
    × (region_empty covered_first 1 1 ≡ silent (undecided 1 1))
    × (region_empty covered_first 2 1 ≡ record { answer = showing 2 1 1; bytes = 0 ∷ [] })
    -- what the third cut gives back of 1* is piece 3; of the record in itself nothing is left
    × (diff_in 2 half less_three 1 1 ≡ silent (undecided 1 3))
    × (diff_in 2 half less_three 9 1 ≡ record { answer = showing 2 1 3; bytes = 0xC0 ∷ [] })
    × (diff_in 2 half half 9 1 ≡ silent (counted 1 1))
unfolding outcome passes read_header header_bytes read_cube cube_fault lent_fault count_at front_len base_at cube_at cubes_at cubes_fault first_at width_fault
    difference_fault differences_from read_file restored visit walk_back stop decide diff_member region_member diff_empty region_empty diff_in
index-figures = (refl, refl, refl, refl, refl, refl, refl, refl, refl, refl, refl, refl, refl)
