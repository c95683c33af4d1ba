-- What a call tells: its result, and the bytes that it writes at the front of the buffer lent to it.
--   Told            == the result and the bytes written, none where nothing is written
--   over old new    == a buffer that held old, with new written over its front
--   Permitted t old r new == what the contract of a call with a buffer permits: the result r is that of t, and the buffer, old before, is now new, with
--                      the bytes of t over its front
--   silent a        == the result a, and nothing is written
--   width_tests, cube_tests, record_tests, file_tests == the tests of a width given directly, and of an operand
--   bits_tests n used bs  == the tests of the bytes of n positions of which the first `used` may be set
--   two_cubes, one_record, two_records == the tests of a width given directly, and then of two cubes, of one record, of two
--   wide, lent_cube, lent_record, lent_file, lent_bits == the table k, after such tests
--   lent_header w h k == the table k, after the tests of a header of w positions
--   yes_or b         == yes where b is true, else no
--   belonging x     == what the first difference that holds a header tells: yes with its index, or no where there is none
--   writing bs room == the bytes bs are to be written into a buffer of that room
--   any_long r       == some difference of r has more cuts than may be written
--   writing_file r bs room  == the region r is to be written, as the bytes bs
--   writing_region w r room == the tidied region r is to be written
--   deciding w d           == what the decision d of a walk tells, with the index of what decided and the header that it shows
--   walking w n room i v   == the walk v, which stops at the index i, is answered with the allowance n, into a header buffer of that room
use Rattle.std.specs.Prelude.{ℕ, ◌≡◌, List, [], ◌∷◌, ◌++◌, Bool, true, false, ◌||◌, ltb, length, drop}
use Rattle.model.specs.Cube.{shown}
use Rattle.model.specs.Difference.{Region, Holder, unheld, held}
use Rattle.model.specs.Walk.{Found, Decision, undecided, empty, member, decide}
use Rattle.answer.specs.declared.Answer.{Answer}
use Rattle.answer.specs.Answer as forms
use Rattle.answer.specs.Answer.{accepted, yes, no, holding, refused, fault, counted, showing, wrote}
use Rattle.format.specs.Rows.{Rows, last, row, onto, then, below, is, isnt, so}
use Rattle.format.specs.Limits.{widest, most_cuts, most_differences}
use Rattle.format.specs.Bytes.{header_len, bits, any_bit, write_header, lent_fault}
use Rattle.format.specs.Records.{difference_fault, file_bytes}
use Rattle.format.specs.Files.{read_file, fault_number, fault_offset}

-- FORMAT 122
pub record Told : Type 0 where
  pub answer : Answer
  pub bytes : List ℕ

-- FORMAT 52
abbrev pub over : List ℕ → List ℕ → List ℕ
over old new = new ++ drop (length new) old

-- FORMAT 52, 122
pub record Permitted (t : Told) (old : List ℕ) (r : Answer) (new : List ℕ) : Type 0 where
  pub answer : r ≡ t.answer
  pub buffer : new ≡ over old t.bytes

-- FORMAT 50
abbrev pub silent : Answer → Told
silent a = record { answer = a; bytes = [] }

-- the tests of what is lent, each a table of refusals whose last line, the number 0, refuses nothing
-- FORMAT 35; of a W that is given directly (FORMAT 28)
abbrev pub width_tests : ℕ → Rows Answer
width_tests w =
    row (is w 0) (refused 10)
    (row (below widest w) (refused 10)
    (last accepted))

-- FORMAT 29
abbrev pub cube_tests : ℕ → List ℕ → ℕ → Rows Answer
cube_tests w c operand =
    row (isnt (lent_fault w c) 0) (fault (lent_fault w c) operand 0)
    (last accepted)

-- FORMAT 25
abbrev pub record_tests : ℕ → List ℕ → ℕ → Rows Answer
record_tests w s operand =
    row (isnt (difference_fault true w 0 s 0) 0) (fault (difference_fault true w 0 s 0) operand 0)
    (last accepted)

-- FORMAT 27
abbrev pub file_tests : List ℕ → ℕ → Rows Answer
file_tests s operand =
    row (isnt (fault_number (read_file s)) 0) (fault (fault_number (read_file s)) operand (fault_offset (read_file s)))
    (last accepted)

-- FORMAT 36; `used` bits may be set (FORMAT 14, 80)
abbrev pub bits_tests : ℕ → ℕ → List ℕ → Rows Answer
bits_tests n used bs =
    row (isnt (length bs) (header_len n)) (refused 11)
    (row (so (any_bit (drop used (bits bs)))) (refused 11)
    (last accepted))

-- what several calls start with: W given directly, and then two cubes, one record or two
abbrev pub two_cubes : ℕ → List ℕ → List ℕ → Rows Answer
two_cubes w a b = then (width_tests w) (then (cube_tests w a 1) (cube_tests w b 2))

abbrev pub one_record : ℕ → List ℕ → Rows Answer
one_record w s = then (width_tests w) (record_tests w s 1)

abbrev pub two_records : ℕ → List ℕ → List ℕ → Rows Answer
two_records w s t = then (one_record w s) (record_tests w t 2)

-- FORMAT 53: a call's table behind such tests
abbrev pub wide : ℕ → Rows Told → Rows Told
wide w k = onto silent (width_tests w) k

abbrev pub lent_cube : ℕ → List ℕ → ℕ → Rows Told → Rows Told
lent_cube w c operand k = onto silent (cube_tests w c operand) k

abbrev pub lent_record : ℕ → List ℕ → ℕ → Rows Told → Rows Told
lent_record w s operand k = onto silent (record_tests w s operand) k

abbrev pub lent_file : List ℕ → ℕ → Rows Told → Rows Told
lent_file s operand k = onto silent (file_tests s operand) k

abbrev pub lent_bits : ℕ → ℕ → List ℕ → Rows Told → Rows Told
lent_bits n used bs k = onto silent (bits_tests n used bs) k

abbrev pub lent_header : ℕ → List ℕ → Rows Told → Rows Told
lent_header w h k = lent_bits w w h k

-- FORMAT 33: yes where b is true
abbrev pub yes_or : Bool → Rows Told
yes_or b =
    row (so b) (silent yes)
    (last (silent no))

-- FORMAT 33, 151
abbrev pub belonging : Holder → Told
belonging unheld = silent no
belonging (held i) = silent (holding i)

-- FORMAT 32, 47
abbrev pub writing : List ℕ → ℕ → Rows Told
writing bs room =
    row (below room (length bs)) (silent (refused 22))
    (last (record { answer = wrote (length bs); bytes = bs }))

abbrev pub any_long : Region → Bool
any_long [] = false
any_long (d ∷ r) = ltb most_cuts (length d.cuts) || any_long r

-- FORMAT 43, 44, in the order of 54
abbrev pub writing_file : Region → List ℕ → ℕ → Rows Told
writing_file r bs room =
    row (so (any_long r)) (silent (refused 18))
    (row (below most_differences (length r)) (silent (refused 19))
    (writing bs room))

-- FORMAT 54, 71
abbrev pub writing_region : ℕ → Region → ℕ → Rows Told
writing_region w r room = writing_file r (file_bytes w r) room

-- FORMAT 33, 34, 50, 51, 152
abbrev pub deciding : ℕ → Decision → Told
deciding w (undecided n i) = silent (forms.undecided n i)
deciding w (empty n) = silent (counted 1 n)
deciding w (member n i p) = record { answer = showing n (header_len w) i; bytes = write_header (shown p) }

-- FORMAT 47, 62
abbrev pub walking : ℕ → ℕ → ℕ → ℕ → Found → Rows Told
walking w n room i v =
    row (below room (header_len w)) (silent (refused 22))
    (last (deciding w (decide n i v)))
