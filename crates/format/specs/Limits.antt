-- The limits and the kinds of records, each named once.
--   widest            == the most positions of a header
--   widest_cube, widest_header    == the bytes of the widest cube and of the widest header
--   most_cuts          == the most cuts of a difference
--   taken_cuts         == the most cuts that a piece of a result is given before it is tidied: those of two differences
--   most_differences   == the most differences of a region
--   most_input         == the most bytes that the question program reads
--   width_kind, difference_kind   == the kinds of records
use Rattle.std.specs.Prelude.{ℕ, ◌+◌, ◌*◌, ◌/◌}

-- FORMAT 3, 139
abbrev pub widest : ℕ
widest = 320

abbrev pub widest_cube : ℕ
widest_cube = (widest + 3) / 4

abbrev pub widest_header : ℕ
widest_header = (widest + 7) / 8

-- FORMAT 6, 139
abbrev pub most_cuts : ℕ
most_cuts = 64

abbrev pub taken_cuts : ℕ
taken_cuts = 2 * most_cuts

-- FORMAT 8
abbrev pub most_differences : ℕ
most_differences = 256

-- FORMAT 49
abbrev pub most_input : ℕ
most_input = 65536

-- FORMAT 21
abbrev pub width_kind : ℕ
width_kind = 1

-- FORMAT 22
abbrev pub difference_kind : ℕ
difference_kind = 2
