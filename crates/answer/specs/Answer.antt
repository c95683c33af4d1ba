-- The forms of a result: which of its six parts say something (FORMAT 26). Of the others the index is that of no difference, and the rest are 0.
--   no_difference       == the index where no difference decided
--   accepted           == no refusal: what the tests of an operand give where none of them holds
--   yes, no            == the answer to a question that shows and counts nothing
--   holding i          == yes, a header is in, and the difference i is the first that holds it
--   refused n          == the refusal n that is of no operand
--   fault n o at       == the refusal n of operand o, at the offset of the record at fault
--   counted n k        == the number n with a count of k
--   undecided k i      == undecided, with a count of k: the next visit, in the difference i, is not paid for
--   showing k b i      == no, with a count of k, and a header of the difference i written in b bytes
--   wrote b            == written: b bytes
--   placed at          == yes, with the offset of a record that is at no fault
use Rattle.std.specs.Prelude.{ℕ}
use Rattle.answer.specs.declared.Answer.{Answer}

-- FORMAT 150
abbrev pub no_difference : ℕ
no_difference = 65535

abbrev pub accepted : Answer
accepted = record { number = 0; operand = 0; offset = 0; count = 0; written = 0; index = no_difference }

abbrev pub yes : Answer
yes = record { number = 1; operand = 0; offset = 0; count = 0; written = 0; index = no_difference }

abbrev pub no : Answer
no = record { number = 2; operand = 0; offset = 0; count = 0; written = 0; index = no_difference }

abbrev pub holding : ℕ → Answer
holding i = record { number = 1; operand = 0; offset = 0; count = 0; written = 0; index = i }

abbrev pub refused : ℕ → Answer
refused n = record { number = n; operand = 0; offset = 0; count = 0; written = 0; index = no_difference }

abbrev pub fault : ℕ → ℕ → ℕ → Answer
fault n o at = record { number = n; operand = o; offset = at; count = 0; written = 0; index = no_difference }

abbrev pub counted : ℕ → ℕ → Answer
counted n k = record { number = n; operand = 0; offset = 0; count = k; written = 0; index = no_difference }

abbrev pub undecided : ℕ → ℕ → Answer
undecided k i = record { number = 3; operand = 0; offset = 0; count = k; written = 0; index = i }

abbrev pub showing : ℕ → ℕ → ℕ → Answer
showing k b i = record { number = 2; operand = 0; offset = 0; count = k; written = b; index = i }

abbrev pub wrote : ℕ → Answer
wrote b = record { number = 0; operand = 0; offset = 0; count = 0; written = b; index = no_difference }

abbrev pub placed : ℕ → Answer
placed at = record { number = 1; operand = 0; offset = at; count = 0; written = 0; index = no_difference }
