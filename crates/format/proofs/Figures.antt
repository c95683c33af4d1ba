-- The figures P1 to P10 (FORMAT 129 to 138).
--   figures    each of them, as one list about the definitions (FORMAT 127)
use mathlib.Core.Path.{◌≡◌, refl}
use mathlib.Core.List.{[], ◌∷◌}
use Rattle.model.specs.Cube.{v0, v1, free}
use Rattle.model.specs.Difference.{less}
use Rattle.model.specs.Tidy.{tidy, tidy_from}
use Rattle.model.specs.Algebra.{intersection, restored}
use Rattle.model.specs.Fields.{unequal, fields_equal}
use Rattle.model.specs.Walk.{visit, decide}
use Rattle.model.specs.Ceiling.{frees, ceiling_from, meeting, mark, matters, marks}
use Rattle.answer.specs.Answer.{fault, counted, undecided, showing, wrote}
use Rattle.format.specs.Rows.{passes, outcome}
use Rattle.format.specs.Bytes.{read_header, header_bytes, read_cube, cube_bytes, write_cube, cube_fault, lent_fault}
use Rattle.format.specs.Records.{count_at, front_len, base_at, cube_at, cubes_at, cubes_fault, width_fault, difference_fault}
use Rattle.format.specs.Records.{front_bytes, difference_bytes, file_bytes}
use Rattle.format.specs.Told.{silent}
use Rattle.format.specs.Calls.{cube_in, diff_less, diff_empty, ceiling_of, equal_fields}

pub figures :
    -- P1: W 4, 10** is 9F
    (write_cube (v1 ∷ v0 ∷ free ∷ free ∷ []) ≡ 0x9F ∷ [])
    -- P2: W 3, 101 is 9B
    × (write_cube (v1 ∷ v0 ∷ v1 ∷ []) ≡ 0x9B ∷ [])
    -- P3: W 2, 00 as a byte with unused places 0 is refused 14
    × (cube_in 2 (0x50 ∷ []) (0x5F ∷ []) ≡ silent (fault 14 1 0))
    -- P4: W 4, base ****, cut 10**: member 0000, count 2, ceiling 3
    × (diff_empty 4 (5 ∷ 0 ∷ 2 ∷ 0 ∷ 1 ∷ 0xFF ∷ 0x9F ∷ []) 9 1 ≡ record { answer = showing 2 1 0; bytes = 0 ∷ [] })
    × (ceiling_of 4 (5 ∷ 0 ∷ 2 ∷ 0 ∷ 1 ∷ 0xFF ∷ 0x9F ∷ []) ≡ silent (counted 0 3))
    -- P5: W 2, base **, cuts 1*, 0*: empty, count 2, ceiling 3
    × (diff_empty 2 (6 ∷ 0 ∷ 2 ∷ 0 ∷ 2 ∷ 0xFF ∷ 0xBF ∷ 0x7F ∷ []) 2 1 ≡ silent (counted 1 2))
    × (ceiling_of 2 (6 ∷ 0 ∷ 2 ∷ 0 ∷ 2 ∷ 0xFF ∷ 0xBF ∷ 0x7F ∷ []) ≡ silent (counted 0 3))
    -- P6: allowance 1 gives undecided, count 1
    × (diff_empty 2 (6 ∷ 0 ∷ 2 ∷ 0 ∷ 2 ∷ 0xFF ∷ 0xBF ∷ 0x7F ∷ []) 1 1 ≡ silent (undecided 1 0))
    -- P7: W 2, base **, cuts 00, 01, 10: member 11, count 3, ceiling 13
    × (diff_empty 2 (7 ∷ 0 ∷ 2 ∷ 0 ∷ 3 ∷ 0xFF ∷ 0x5F ∷ 0x6F ∷ 0x9F ∷ []) 9 1 ≡ record { answer = showing 3 1 0; bytes = 0xC0 ∷ [] })
    × (ceiling_of 2 (7 ∷ 0 ∷ 2 ∷ 0 ∷ 3 ∷ 0xFF ∷ 0x5F ∷ 0x6F ∷ 0x9F ∷ []) ≡ silent (counted 0 13))
    -- P8: W 2, ** less (1* less 11)
    × (diff_less 2 (4 ∷ 0 ∷ 2 ∷ 0 ∷ 0 ∷ 0xFF ∷ []) (5 ∷ 0 ∷ 2 ∷ 0 ∷ 1 ∷ 0xBF ∷ 0xAF ∷ []) 19
    ≡ record {
      answer = wrote 19;
      bytes = 4 ∷ 0 ∷ 1 ∷ 0 ∷ 2 ∷ 0 ∷ 5 ∷ 0 ∷ 2 ∷ 0 ∷ 1 ∷ 0xFF ∷ 0xBF ∷ 4 ∷ 0 ∷ 2 ∷ 0 ∷ 0 ∷ 0xAF ∷ [];
    })
    -- P9: W 2, starts 0 and 1, n 1, equality
    × (equal_fields 2 0 1 1 8 ≡ record { answer = wrote 8; bytes = 6 ∷ 0 ∷ 2 ∷ 0 ∷ 2 ∷ 0xFF ∷ 0x6F ∷ 0x9F ∷ [] })
    -- P10: W 2, 1* less 0* tidies to 1* with no cut
    × (tidy (less (v1 ∷ free ∷ []) ((v0 ∷ free ∷ []) ∷ [])) ≡ less (v1 ∷ free ∷ []) [] ∷ [])
unfolding outcome passes read_header header_bytes read_cube cube_bytes cube_fault lent_fault count_at front_len base_at cube_at cubes_at cubes_fault width_fault
    difference_fault front_bytes difference_bytes file_bytes tidy_from intersection restored unequal fields_equal visit decide frees ceiling_from meeting mark
    matters marks cube_in diff_less diff_empty ceiling_of equal_fields
figures = (refl, refl, refl, refl, refl, refl, refl, refl, refl, refl, refl, refl, refl)
