-- Region files, read.
--   Reading                == `faulty`, with the number and the offset of the refusal, or `whole`, with the offsets of the file's differences in order
--   before at r            == the reading r with the record at an offset read before it
--   differences_from t w s at n == the kind 2 records from an offset on, with n before it and at most t to come
--   read_file s             == the file s
--   fault_number, fault_offset, offsets == the parts of a reading: the number is 0 where nothing is refused
--   region_of w s os        == the region of the differences at the offsets os
--   region_in s             == the region that the file s holds
use Rattle.std.specs.Prelude.{ℕ, zero, suc, ◌+◌, List, [], ◌∷◌, map, false, cond, leb, eqb, length}
use Rattle.model.specs.Difference.{Region}
use Rattle.format.specs.Records.{next_at, width_of, first_at, width_fault, difference_fault, difference_at}

pub data Reading : Type 0 where
  faulty : ℕ → ℕ → Reading
  whole : List ℕ → Reading

abbrev pub fault_number : Reading → ℕ
fault_number (faulty f at) = f
fault_number (whole os) = 0

-- FORMAT 27
abbrev pub fault_offset : Reading → ℕ
fault_offset (faulty f at) = at
fault_offset (whole os) = 0

abbrev pub offsets : Reading → List ℕ
offsets (faulty f at) = []
offsets (whole os) = os

abbrev pub before : ℕ → Reading → Reading
before at (faulty f o) = faulty f o
before at (whole os) = whole (at ∷ os)

unfoldable pub differences_from : ℕ → ℕ → List ℕ → ℕ → ℕ → Reading
differences_from zero w s at n = whole []
differences_from (suc t) w s at n =
    let f = difference_fault false w n s at in
    let rest = before at (differences_from t w s (next_at s at) (n + 1)) in
    let here = cond (eqb f 0) rest (faulty f at) in
    cond (leb (length s) at) (whole []) here

-- FORMAT 24, 63. A record is not empty, so a file has no more records than bytes.
unfoldable pub read_file : List ℕ → Reading
read_file s =
    let rest = differences_from (length s) (width_of s) s (first_at s) 0 in
    cond (eqb (width_fault s) 0) rest (faulty (width_fault s) 0)

abbrev pub region_of : ℕ → List ℕ → List ℕ → Region
region_of w s os = map (difference_at w s) os

-- FORMAT 24
abbrev pub region_in : List ℕ → Region
region_in s = region_of (width_of s) s (offsets (read_file s))
