-- What is promised of every call, under FORMAT 119 to 128: each demand here, and each call in the file of its family.
--
-- Who believes these words and reads this page with the files below it knows what is proved; each word stands in a file of specs that opens with its
-- glossary:
--   model/specs              headers, cubes, differences, regions (Header, holds, in_difference, in_region), the operations, the walk, its ceiling,
--                            which difference decides (FirstIn, Passed, Unpaid)
--   format/specs             what the bytes say (Bytes, Records, Files), a table of tests (Rows), what is told (Told), each call's definition (Calls),
--                            what answers mean (Meaning: Lent, Inside, Outside, Written, WrittenCube, Shown, Seen, Onward)
--   region/specs/Stepping    some steps of reading on and of a reader (answers, told), and the records before an offset (records_before)
--   promises/specs           a contract and its outcomes (Outcome), where a call is answered (Accepted), demand 3 (Decides)
use Prim.Native.Nat.{ℕ, ◌-◌, ◌/◌, ◌%◌, ◌*◌, ◌^◌, ◌<◌}
use native.Mathlib.Omega.{arith}
use mathlib.Core.Path.{◌≡◌, refl, ap, ◌∙◌}
use mathlib.Core.List.{List, []}
use mathlib.Core.Bool.{false}
use lib.ListN.{length, get_or, take, drop, length-append, length-drop}
use lib.Seq.{take_at, drop_at}
use Rattle.model.specs.Cube.{none}
use Rattle.answer.specs.declared.Answer.{Answer}
use Rattle.format.specs.Rows.{Rows, outcome, Reaches, nth}
use Rattle.format.specs.Bytes.{bit_of, bits, code_of, codes}
use Rattle.format.specs.Told.{Told, over, Permitted}
use Rattle.format.proofs.Reached.{reached}
use Rattle.format.proofs.Coding.{code-at}
use Rattle.format.proofs.Heading.{bit_at}
use Rattle.promises.specs.Outcome.{OneOutcome, Kept, Unwritten}
use Rattle.promises.proofs.Agreeing.{agree}
use Rattle.promises.proofs.Keeping.{none_written, written}
--
-- THE CALLS, family by family. Of each call f its family has
--   f-met            the code meets its contract, ends, and does nothing undefined
--   f-promise        its contract takes anything, and permits the outcomes of its definition and no other
--   f-agrees         two permitted outcomes agree
--   f-answered       it is answered exactly where what it was lent is accepted, and then tells this; elsewhere it refuses, by a number from 10 on
--   f-kept           it writes nothing where it refuses, says yes or is undecided; what it writes fits, and is as long as its result says
-- and what its answers mean. `wider`, `view` and reading on hand back a stretch or a place and write nothing: of them what is handed back, and where,
-- stands in place of the last two.
pub mod Cubes  -- cube_meet, cube_in, wider, wider_number
pub mod Membership  -- diff_member, region_member
pub mod Regions  -- region_tidy, diff_intersect, region_intersect, diff_less, region_less
pub mod Walks  -- diff_empty, region_empty, diff_in, ceiling
pub mod Fields  -- prefix, equal_fields
pub mod Views  -- view, view_number
pub mod ReadingOn  -- read_on, first_step, begin_reading, step_on
pub mod Host  -- permit_member, permit_empty, and the question program
pub use Cubes.*
pub use Membership.*
pub use Regions.*
pub use Walks.*
pub use Fields.*
pub use Views.*
pub use ReadingOn.*
pub use Host.*
--
-- THE MODEL. What FORMAT.md claims of headers, cubes, differences and the walk, each claim once over the width
-- (FORMAT 128): the set meaning of the meet and of lying in, of tidying, intersection, subtraction, prefix and
-- equality;
pub use Rattle.model.proofs.Cubes.{in_meet, shares-shown, apart_none, within_in, within-out}
pub use Rattle.model.proofs.Tidying.{in-tidy_region, tidy-tidy}
pub use Rattle.model.proofs.Setting.{in-intersection, in-intersections, in-subtraction, in-subtractions, restored-back}
pub use Rattle.model.proofs.Field.{in-prefix, in-equal}
-- what survives the walk is in and shows a header, and no survivor means that none is;
pub use Rattle.model.proofs.Walking.{in-children, survivor-in, survivor-solid, survivor-shown, nothing-in}
pub use Rattle.model.proofs.Walking.{region-survivor-in, region-survivor-shown, region-nothing-in}
pub use Rattle.model.proofs.Including.{inclusion-nothing, inclusion-survivor}
-- which difference is the first that holds a header, and at which difference or piece a walk stops;
pub use Rattle.model.proofs.Holding.{held_in, held_first}
pub use Rattle.model.proofs.Including.{less-in-turn}
pub use Rattle.model.proofs.Indexing.{in_pieces}
pub use Rattle.model.proofs.Stopping.{region-in-turn, stopped-before, stopped-member, stopped-undecided, stopped-empty, unpaid-one}
-- how many pieces there are, at most 1 + k * 2^s of every difference; what counts for the ceiling (FORMAT 117), and what an allowance makes of them.
pub use Rattle.model.proofs.Walking.{walk-positive}
pub use Rattle.model.proofs.Spread.{pieces-at-most-over}
pub use Rattle.model.proofs.Bound.{pieces-at-most-ceiling}
pub use Rattle.model.proofs.Ceilings.{ceiling-missed, ceiling-at-most}
pub use Rattle.model.proofs.Allowed.{decided-when, undecided-when}
--
-- THE FIGURES. P1 to P10, in one list under one theorem (FORMAT 127); and the trainees' slips 1, 2 and 5, each as the
-- answer that it gets wrong (FORMAT 145, 146, 149). The index of each sort of answer (FORMAT 150 to 154), and the right
-- one where one is taken for another.
pub use Rattle.format.proofs.Figures.{figures}
pub use Rattle.format.proofs.IndexFigures.{index-figures}
pub use Rattle.model.proofs.Slips.{slips, index-slips}

-- AGREEMENT. Any two permitted outcomes are the same (FORMAT 123), of anything that a call tells, and so of each call.
pub two-outcomes-agree : (t : Told) (old : List ℕ) → OneOutcome t old
two-outcomes-agree = agree

-- DEMAND 1 (FORMAT 119). A call takes any input, ends, refuses bad bytes by number, and where it refuses leaves every
-- lent buffer as it was. Of each call: f-met, f-promise, f-answered, f-kept.

-- A refusal is determined: a table of tests gives its first row whose test holds; rows are counted from 0, and the last line comes after them.
pub first-row-that-holds : {A : Type 0} (n : ℕ) (k : Rows A) → Reaches n k → nth n k ≡ outcome k
first-row-that-holds = reached

-- FORMAT 50: where nothing is written
pub refusal-tells-no-byte : {room : ℕ} {t : Told} → Kept room t → Unwritten t.answer → (t.bytes ≡ []) × (t.answer.written ≡ 0)
refusal-tells-no-byte k q = let e = none_written k q in (e, k.told ∙ ap length e)

module _ {t : Told} {old : List ℕ} {r : Answer} {new : List ℕ} (k : Kept (length old) t) (p : Permitted t old r new) where
  pub refusal-leaves-buffer : Unwritten r → new ≡ old
  refusal-leaves-buffer q = p.buffer ∙ ap (over old) (none_written k (rw p.answer at q))

  -- FORMAT 52: which bytes a call changes
  pub first-bytes-written : take r.written new ≡ t.bytes
  first-bytes-written = rw (p.buffer, written k p) (take_at t.bytes _ _ refl)

  pub none-after-touched : drop r.written new ≡ drop r.written old
  none-after-touched = rw (p.buffer, written k p) (drop_at t.bytes _ _ refl)

  pub buffer-length-kept : length new ≡ length old
  buffer-length-kept = rw p.buffer (simp (length-append, length-drop) (omega (arith, k.fits)))

-- DEMAND 2 (FORMAT 120). What the calls answer and write means the header sets of the model and nothing else; a region
-- that is written again keeps its headers, and a tidy one its bytes. Of each call: f-means, f-yes, f-no, f-written; and
-- of the bytes, which position of a cube (FORMAT 16) and of a header (FORMAT 13) stands where.
pub cube-position : (bs : List ℕ) (p : ℕ) → p < 4 * length bs → get_or (codes bs) p none ≡ code_of (get_or bs (p / 4) 0 / 4 ^ (3 - p % 4) % 4)
cube-position = code-at

pub header-position : (bs : List ℕ) (p : ℕ) → p < 8 * length bs → get_or (bits bs) p false ≡ bit_of (get_or bs (p / 8) 0 / 2 ^ (7 - p % 8) % 2)
header-position = bit_at

-- DEMAND 3 (FORMAT 121). Where the allowance is enough, emptiness says yes exactly where no header is in, and else
-- shows one. It is undecided exactly where the walk has more pieces than the allowance. The count is of that walk's
-- pieces, and the ceiling bounds it. The index is that of the difference or piece that decided (FORMAT 152, 153). Of
-- each call that walks: f-decides, and in Walks the ceilings.
