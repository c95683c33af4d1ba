-- Reading on, step after step, and a reader, which adds to it only that it holds the file and its place (FORMAT 93).
--   begun file          == the reader of a file, before its first difference
--   turned r            == what a step of the reader r gives: what reading on gives at its place, and the reader with its next place
--   answers n s place   == the answers of n steps of reading on in the file s from a place, in their order
--   told n r            == the answers of n steps of the reader r
--   before_at at os      == the offsets that stand before the first one that is not below an offset
--   records_before s at  == the offsets of the records of the file s that stand before an offset, as their lengths say
use Rattle.std.specs.Prelude.{ℕ, zero, suc, List, [], ◌∷◌, cond, ltb}
use Rattle.std.specs.Borrow.{Bor}
use Rattle.answer.specs.declared.Answer.{Answer}
use Rattle.format.specs.Records.{first_at}
use Rattle.format.specs.Calls.{read_on}
use Rattle.region.specs.Ahead.{ahead}
use Rattle.region.specs.declared.reader.Reader.{Reader}
use Rattle.region.specs.declared.reader.Turn.{Turn}

abbrev pub begun : Bor (List ℕ) → Reader
begun file = record { file = file; place = 0 }

abbrev pub turned : Reader → Turn
turned r =
    let step = read_on r.file.now r.place in
    record { answer = step.answer; reader = record { file = r.file; place = step.place } }

abbrev pub answers : ℕ → List ℕ → ℕ → List Answer
answers zero s place = []
answers (suc n) s place = (read_on s place).answer ∷ answers n s (read_on s place).place

abbrev pub told : ℕ → Reader → List Answer
told zero r = []
told (suc n) r = (turned r).answer ∷ told n (turned r).reader

abbrev pub before_at : ℕ → List ℕ → List ℕ
before_at at [] = []
before_at at (o ∷ os) = cond (ltb o at) (o ∷ before_at at os) []

abbrev pub records_before : List ℕ → ℕ → List ℕ
records_before s at = before_at at (ahead s (first_at s))
