-- One definition for each public call: everything that it gives back, of the bytes and numbers lent. `room` is the
-- length of the buffer lent for writing. The tests come in the order of FORMAT 53 and 54.
--   cube_meet, cube_in                  == two cubes: the cube of their common headers; whether the first lies in the second
--   Which                               == what `wider` hands back: the first cube, the second, or neither
--   wider, wider_number                 == the wider of two cubes, and the number of the separate question
--   diff_member, region_member          == whether a header is in, and the first difference that it is in
--   diff_intersect, region_intersect    == the headers that are in both
--   diff_less, region_less              == the headers that are in the first and not in the difference
--   diff_empty, region_empty            == whether no header is in, or a header that is, and the difference that it is in
--   diff_in                             == whether every header of the first is in the second, or one that is not, and the piece that it is in
--   ceiling_of                          == the ceiling of a difference
--   region_tidy                         == the region tidied
--   prefix                              == the cube of a prefix constraint
--   equal_fields                        == the difference of equality of fields
--   Viewed, unseen a                    == a view's number and its stretch of the file; the answer a with a stretch of length 0
--   view                                == a cube by difference and index, as a stretch of the file, and the number of the separate question
--   Step, stay a place                  == a step's answer and the next place; the answer a with the same place
--   start_of s place                     == where a step looks for a record
--   read_on                             == one step of reading on, and the next place
--   question                            == what the question program tells of its input
use Rattle.std.specs.Prelude.{ℕ, ◌+◌, ◌*◌, List, [], ◌∷◌, map, false, not, cond, ◌||◌, eqb, length, get_or}
use Rattle.model.specs.Cube.{meet, shares, within}
use Rattle.model.specs.Difference.{first_holder}
use Rattle.model.specs.Tidy.{tidy_region}
use Rattle.model.specs.Algebra.{intersection, intersections, subtraction, subtractions}
use Rattle.model.specs.Fields.{prefix_cube, fields_equal}
use Rattle.model.specs.Walk.{walk, walk_region, walk_inclusion, walks_less, stop}
use Rattle.model.specs.Ceiling.{ceiling, capped}
use Rattle.answer.specs.declared.Answer.{Answer}
use Rattle.answer.specs.Answer.{yes, no, refused, fault, counted, placed}
use Rattle.format.specs.Rows.{last, row, onto, below, is, isnt, so, outcome}
use Rattle.format.specs.Limits.{most_cuts, most_input}
use Rattle.format.specs.Bytes.{cube_len, bits, read_header, read_cube, write_cube}
use Rattle.format.specs.Records.{count_at, base_at, next_at, width_of, first_at, width_fault, difference_at, difference_fault, difference_bytes}
use Rattle.format.specs.Files.{read_file, fault_number, fault_offset, offsets, region_in}
use Rattle.format.specs.Told.{Told, silent, two_cubes, wide, lent_cube, lent_record, lent_file, lent_bits, lent_header}
use Rattle.format.specs.Told.{yes_or, belonging, writing, writing_region, walking}

-- What each operation takes is FORMAT 64; which operand is which, 66.

-- cubes

-- FORMAT 67
unfoldable pub cube_meet : ℕ → List ℕ → List ℕ → ℕ → Told
cube_meet w a b room =
    outcome
    (wide w
    (lent_cube w a 1
    (lent_cube w b 2
    (row (so (not (shares (read_cube w a) (read_cube w b)))) (silent no)
    (writing (write_cube (meet (read_cube w a) (read_cube w b))) room)))))

-- FORMAT 68
unfoldable pub cube_in : ℕ → List ℕ → List ℕ → Told
cube_in w a b =
    outcome
    (wide w
    (lent_cube w a 1
    (lent_cube w b 2
    (yes_or (within (read_cube w a) (read_cube w b))))))

-- FORMAT 89, 90
pub data Which : Type 0 where
  first second neither : Which

-- FORMAT 89, 90
unfoldable pub wider : ℕ → List ℕ → List ℕ → Which
wider w a b =
    outcome
    (onto (λ refusal. neither) (two_cubes w a b)
    (row (so (within (read_cube w b) (read_cube w a))) first
    (row (so (within (read_cube w a) (read_cube w b))) second
    (last neither))))

-- FORMAT 92
unfoldable pub wider_number : ℕ → List ℕ → List ℕ → Told
wider_number w a b =
    outcome
    (wide w
    (lent_cube w a 1
    (lent_cube w b 2
    (yes_or (within (read_cube w b) (read_cube w a) || within (read_cube w a) (read_cube w b))))))

-- membership; the C host asks region_member and region_empty (FORMAT 100)

-- FORMAT 7, 64; as the region of that one difference (FORMAT 154)
unfoldable pub diff_member : ℕ → List ℕ → List ℕ → Told
diff_member w s h =
    outcome
    (wide w
    (lent_record w s 1
    (lent_header w h
    (last (belonging (first_holder (difference_at w s 0 ∷ []) (read_header w h)))))))

-- FORMAT 9, 64, 65, 100, 151
unfoldable pub region_member : List ℕ → List ℕ → Told
region_member s h =
    outcome
    (lent_file s 1
    (lent_header (width_of s) h
    (last (belonging (first_holder (region_in s) (read_header (width_of s) h))))))

-- what writes region files, tidied (FORMAT 71)

-- FORMAT 71
unfoldable pub region_tidy : List ℕ → ℕ → Told
region_tidy s room =
    outcome
    (lent_file s 1
    (writing_region (width_of s) (tidy_region (region_in s)) room))

-- FORMAT 64
unfoldable pub diff_intersect : ℕ → List ℕ → List ℕ → ℕ → Told
diff_intersect w s t room =
    outcome
    (wide w
    (lent_record w s 1
    (lent_record w t 2
    (writing_region w (tidy_region (intersection (difference_at w s 0) (difference_at w t 0))) room))))

-- FORMAT 64; 20 is FORMAT 45
unfoldable pub region_intersect : List ℕ → List ℕ → ℕ → Told
region_intersect s t room =
    outcome
    (lent_file s 1
    (lent_file t 2
    (row (isnt (width_of s) (width_of t)) (silent (refused 20))
    (writing_region (width_of s) (tidy_region (intersections (region_in s) (region_in t))) room))))

-- FORMAT 64, 66
unfoldable pub diff_less : ℕ → List ℕ → List ℕ → ℕ → Told
diff_less w s t room =
    outcome
    (wide w
    (lent_record w s 1
    (lent_record w t 2
    (writing_region w (tidy_region (subtraction (difference_at w s 0) (difference_at w t 0))) room))))

-- FORMAT 64, 66; the difference has the file's W (FORMAT 65)
unfoldable pub region_less : List ℕ → List ℕ → ℕ → Told
region_less s t room =
    outcome
    (lent_file s 1
    (lent_record (width_of s) t 2
    (writing_region (width_of s) (tidy_region (subtractions (region_in s) (difference_at (width_of s) t 0))) room)))

-- the walk

-- FORMAT 64; the one difference has the index 0 (FORMAT 154)
unfoldable pub diff_empty : ℕ → List ℕ → ℕ → ℕ → Told
diff_empty w s n room =
    outcome
    (wide w
    (lent_record w s 1
    (walking w n room 0 (walk (difference_at w s 0)))))

-- FORMAT 64, 100, 152
unfoldable pub region_empty : List ℕ → ℕ → ℕ → Told
region_empty s n room =
    outcome
    (lent_file s 1
    (walking (width_of s) n room (stop n (map walk (region_in s))) (walk_region (region_in s))))

-- FORMAT 64, 66, 114, 153; a piece with 65 cuts is not refused (FORMAT 115)
unfoldable pub diff_in : ℕ → List ℕ → List ℕ → ℕ → ℕ → Told
diff_in w s t n room =
    let a = difference_at w s 0 in
    let b = difference_at w t 0 in
    outcome
    (wide w
    (lent_record w s 1
    (lent_record w t 2
    (walking w n room (stop n (walks_less a b)) (walk_inclusion a b)))))

-- FORMAT 32, 116
unfoldable pub ceiling_of : ℕ → List ℕ → Told
ceiling_of w s =
    outcome
    (wide w
    (lent_record w s 1
    (last (silent (counted 0 (capped (ceiling (difference_at w s 0))))))))

-- fields

-- FORMAT 46, 78 to 81
unfoldable pub prefix : ℕ → ℕ → ℕ → ℕ → List ℕ → ℕ → Told
prefix w s n m value room =
    outcome
    (wide w
    (row (is n 0) (silent (refused 21))
    (row (below w (s + n)) (silent (refused 21))
    (row (below n m) (silent (refused 21))
    (lent_bits n m value
    (writing (write_cube (prefix_cube w s m (bits value))) room))))))

-- FORMAT 43, 46, 78, 82 to 87
unfoldable pub equal_fields : ℕ → ℕ → ℕ → ℕ → ℕ → Told
equal_fields w p q n room =
    outcome
    (wide w
    (row (is n 0) (silent (refused 21))
    (row (below w (p + n)) (silent (refused 21))
    (row (below w (q + n)) (silent (refused 21))
    (row (below most_cuts (length (fields_equal w p q n).cuts)) (silent (refused 18))
    (writing (difference_bytes w (fields_equal w p q n)) room))))))

-- views

pub record Viewed : Type 0 where
  pub answer : Answer
  pub start : ℕ
  pub size : ℕ

-- FORMAT 90
abbrev pub unseen : Answer → Viewed
unseen a = record { answer = a; start = 0; size = 0 }

-- FORMAT 48, 88, 91
unfoldable pub view : List ℕ → ℕ → ℕ → Viewed
view s d i =
    let at = get_or (offsets (read_file s)) d 0 in
    outcome
    (row (isnt (fault_number (read_file s)) 0) (unseen (fault (fault_number (read_file s)) 1 (fault_offset (read_file s))))
    (row (below (length (offsets (read_file s))) (d + 1)) (unseen (refused 23))
    (row (below (count_at s at) i) (unseen (refused 23))
    (last (record { answer = yes; start = base_at s at + i * cube_len (width_of s); size = cube_len (width_of s) })))))

-- reading on

pub record Step : Type 0 where
  pub answer : Answer
  pub place : ℕ

-- FORMAT 95
abbrev pub stay : Answer → ℕ → Step
stay a place = record { answer = a; place = place }

-- FORMAT 96
abbrev pub start_of : List ℕ → ℕ → ℕ
start_of s place = cond (eqb place 0) (first_at s) place

-- FORMAT 94, 95, 97 to 99
unfoldable pub read_on : List ℕ → ℕ → Step
read_on s place =
    let at = start_of s place in
    let f = difference_fault false (width_of s) 0 s at in
    outcome
    (row (isnt (width_fault s) 0) (stay (fault (width_fault s) 1 0) place)
    (row (is at (length s)) (stay no place)
    (row (isnt f 0) (stay (fault f 1 at) place)
    (last (record { answer = placed at; place = next_at s at })))))

-- FORMAT 49, 140; the program lends room for the widest header
unfoldable pub question : List ℕ → Told
question s =
    outcome
    (row (below most_input (length s)) (silent (refused 25))
    (last (region_empty s 1000000 40)))
