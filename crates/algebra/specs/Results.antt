-- The tail of the calls that write a region.
--   whole_rows w p room    == the table of a result that is to be written, the region p of differences of whole bytes
--   whole_told o w s a t x room == what is told of the whole result of the operation o
--   all_made k q d          == what the difference d makes with each stop of the task k, its cubes of q bytes each
--   total_of k              == all that the task k makes
--   told_of k room          == what is told of the whole result of the task k
--   answer_of x             == the answer of what was written, or refused
use Rattle.std.specs.Prelude.{ℕ, ◌*◌, List, ◌++◌, Result, Ok, Err}
use Rattle.model.specs.Difference.{Difference, Region}
use Rattle.model.specs.Tidy.{each}
use Rattle.answer.specs.Answer.{refused, wrote}
use Rattle.answer.specs.Refusals.{number_of}
use Rattle.answer.specs.declared.Answer.{Answer}
use Rattle.answer.specs.declared.refusal.Refusal.{Refusal}
use Rattle.format.specs.Rows.{Rows, outcome}
use Rattle.format.specs.Bytes.{cube_len}
use Rattle.format.specs.Records.{width_bytes, differences_bytes}
use Rattle.format.specs.Told.{Told, writing_file}
use Rattle.algebra.specs.Totals.{stops, made, total}
use Rattle.algebra.specs.declared.stop.Operation.{Operation}
use Rattle.algebra.specs.declared.run.Task.{Task}

abbrev pub whole_rows : ℕ → Region → ℕ → Rows Told
whole_rows w p room = writing_file p (width_bytes w ++ differences_bytes (4 * cube_len w) p) room

abbrev pub whole_told : Operation → ℕ → List ℕ → ℕ → List ℕ → ℕ → ℕ → Told
whole_told o w s a t x room = outcome (whole_rows w (total o (cube_len w) s a t x) room)

abbrev pub all_made : Task → ℕ → Difference → Region
all_made k q d = each (made k.operation q k.t.now d) (stops k.operation q k.t.now k.start)

abbrev pub total_of : Task → Region
total_of k = total k.operation (cube_len k.width) k.s.now k.first k.t.now k.start

abbrev pub told_of : Task → ℕ → Told
told_of k room = whole_told k.operation k.width k.s.now k.first k.t.now k.start room

abbrev pub answer_of : Result ℕ Refusal → Answer
answer_of (Ok n) = wrote n
answer_of (Err r) = refused (number_of r)
