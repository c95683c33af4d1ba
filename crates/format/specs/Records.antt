-- Records: a length, a kind and a body (FORMAT 20).
--   u16_at s at               == the number in two bytes of s at an offset
--   length_at, kind_at         == a record's length and kind
--   next_at s at              == where the record at an offset ends
--   front_len k               == how many bytes stand in front of the base of a difference with k cuts
--   count_at, base_at          == the count of cuts of the record of a difference, and where its base starts
--   difference_len k q        == the length of a kind 2 record with k cuts of q bytes
--   cube_at w s at            == the cube of w positions that stands at an offset
--   cubes_at w s at k         == the k cubes from an offset on
--   difference_at w s at      == the difference whose kind 2 record stands at an offset
--   cubes_fault w s at k      == what is wrong with the first bad one of k cubes from an offset on, or 0
--   width_of s                == the W that the kind 1 record at the start of s states
--   first_at s                == where the records of differences begin in the file s
--   bytes_after alone s at    == how many bytes follow the record, where none may
--   frame_rows kind s at      == the tests of the length and the kind of a record
--   width_rows s              == the tests of the kind 1 record
--   number_rows, difference_rows == the tests of a kind 2 record up to its cubes, and all of them
--   width_fault s             == what is wrong with the kind 1 record at the start of s, or 0
--   difference_fault alone w n s at == what is wrong with the kind 2 record at an offset, with n differences before it, or 0; `alone`: it is a
--                               single record, and nothing may follow it
--   u16_bytes n, cubes_bytes, front_bytes k q, difference_bytes w d, differences_bytes w r, width_bytes w, file_bytes w r == what is written; the front of a
--                               record is all that stands before its base, k cuts of q bytes
use Rattle.std.specs.Prelude.{ℕ, zero, suc, ◌+◌, ◌-◌, ◌*◌, ◌/◌, ◌%◌, List, [], ◌∷◌, ◌++◌, Bool, cond, eqb, length, get_or, take, drop}
use Rattle.model.specs.Cube.{Cube}
use Rattle.model.specs.Difference.{Difference, less, Region}
use Rattle.format.specs.Rows.{Rows, last, row, then, below, is, isnt, outcome}
use Rattle.format.specs.Limits.{widest, most_cuts, most_differences, width_kind, difference_kind}
use Rattle.format.specs.Bytes.{cube_len, read_cube, write_cube, cube_fault}

-- FORMAT 20: the low byte first
abbrev pub u16_at : List ℕ → ℕ → ℕ
u16_at s at = get_or s at 0 + 256 * get_or s (at + 1) 0

-- FORMAT 20: a record's length, its kind, and where it ends
abbrev pub length_at : List ℕ → ℕ → ℕ
length_at s at = u16_at s at

abbrev pub kind_at : List ℕ → ℕ → ℕ
kind_at s at = u16_at s (at + 2)

abbrev pub next_at : List ℕ → ℕ → ℕ
next_at s at = at + 2 + length_at s at

-- FORMAT 22
unfoldable pub count_at : List ℕ → ℕ → ℕ
count_at s at = get_or s (at + 4) 0

unfoldable pub front_len : ℕ → ℕ
front_len k = 5

-- FORMAT 22
unfoldable pub base_at : List ℕ → ℕ → ℕ
base_at s at = at + front_len (count_at s at)

-- FORMAT 23
abbrev pub difference_len : ℕ → ℕ → ℕ
difference_len k q = 3 + (k + 1) * q

-- read
unfoldable pub cube_at : ℕ → List ℕ → ℕ → Cube
cube_at w s at = read_cube w (take (cube_len w) (drop at s))

unfoldable pub cubes_at : ℕ → List ℕ → ℕ → ℕ → List Cube
cubes_at w s at zero = []
cubes_at w s at (suc k) = cube_at w s at ∷ cubes_at w s (at + cube_len w) k

-- FORMAT 22
abbrev pub difference_at : ℕ → List ℕ → ℕ → Difference
difference_at w s at = less (cube_at w s (base_at s at)) (cubes_at w s (base_at s at + cube_len w) (count_at s at))

-- refused: FORMAT 60
unfoldable pub cubes_fault : ℕ → List ℕ → ℕ → ℕ → ℕ
cubes_fault w s at zero = 0
cubes_fault w s at (suc k) =
    let first = cube_fault w (take (cube_len w) (drop at s)) in
    let later = cubes_fault w s (at + cube_len w) k in
    cond (eqb first 0) later first

-- FORMAT 40 to 42, in the order of 55
abbrev pub frame_rows : ℕ → List ℕ → ℕ → Rows ℕ
frame_rows kind s at =
    row (below (length s) (at + 2)) 15
    (row (below (length s) (next_at s at)) 15
    (row (below (length_at s at) 2) 17
    (row (isnt (kind_at s at) kind) 16
    (last 0))))

-- FORMAT 21
abbrev pub width_of : List ℕ → ℕ
width_of s = u16_at s 4

-- behind kind 1
unfoldable pub first_at : List ℕ → ℕ
first_at s = next_at s 0

-- FORMAT 35, 42, 63, in the order of 56
abbrev pub width_rows : List ℕ → Rows ℕ
width_rows s =
    then (frame_rows width_kind s 0)
    (row (isnt (length_at s 0) 4) 17
    (row (is (width_of s) 0) 10
    (row (below widest (width_of s)) 10
    (last 0))))

unfoldable pub width_fault : List ℕ → ℕ
width_fault s = outcome (width_rows s)

-- FORMAT 59: the bytes after a single record; in a file other records may follow
abbrev pub bytes_after : Bool → List ℕ → ℕ → ℕ
bytes_after alone s at = cond alone (length s - next_at s at) 0

-- FORMAT 42 to 44, in the order of 57 to 59
abbrev pub number_rows : Bool → ℕ → ℕ → List ℕ → ℕ → Rows ℕ
number_rows alone w n s at =
    then (frame_rows difference_kind s at)
    (row (below most_differences (n + 1)) 19
    (row (below (length_at s at) 3) 17
    (row (below most_cuts (count_at s at)) 18
    (row (isnt (length_at s at) (difference_len (count_at s at) (cube_len w))) 17
    (row (isnt (bytes_after alone s at) 0) 17
    (last 0))))))

-- FORMAT 57: and then its cubes
abbrev pub difference_rows : Bool → ℕ → ℕ → List ℕ → ℕ → Rows ℕ
difference_rows alone w n s at =
    then (number_rows alone w n s at)
    (last (cubes_fault w s (base_at s at) (count_at s at + 1)))

unfoldable pub difference_fault : Bool → ℕ → ℕ → List ℕ → ℕ → ℕ
difference_fault alone w n s at = outcome (difference_rows alone w n s at)

-- written: FORMAT 20
abbrev pub u16_bytes : ℕ → List ℕ
u16_bytes n = n % 256 ∷ n / 256 % 256 ∷ []

abbrev pub cubes_bytes : List Cube → List ℕ
cubes_bytes [] = []
cubes_bytes (c ∷ cs) = write_cube c ++ cubes_bytes cs

unfoldable pub front_bytes : ℕ → ℕ → List ℕ
front_bytes k q = u16_bytes (difference_len k q) ++ (u16_bytes difference_kind ++ (k ∷ []))

-- FORMAT 22, 87
unfoldable pub difference_bytes : ℕ → Difference → List ℕ
difference_bytes w d = front_bytes (length d.cuts) (cube_len w) ++ cubes_bytes (d.base ∷ d.cuts)

abbrev pub differences_bytes : ℕ → Region → List ℕ
differences_bytes w [] = []
differences_bytes w (d ∷ r) = difference_bytes w d ++ differences_bytes w r

-- FORMAT 21
abbrev pub width_bytes : ℕ → List ℕ
width_bytes w = u16_bytes 4 ++ (u16_bytes width_kind ++ u16_bytes w)

-- FORMAT 24
unfoldable pub file_bytes : ℕ → Region → List ℕ
file_bytes w r = width_bytes w ++ differences_bytes w r
