-- Where the reader of a file is, record after record.
--   after os r      == the reading r with the records at the offsets os read before it
--   passed s n      == the offsets of the first n records of a file, as their lengths say
--   Reached s at n  == the first n records of the file s are accepted, and the next one is at an offset
use Rattle.std.specs.Prelude.{ℕ, ◌-◌, ◌≤◌, ◌≡◌, List, ◌++◌, length, take, drop}
use Rattle.format.specs.Limits.{most_differences}
use Rattle.format.specs.Records.{width_of, first_at}
use Rattle.format.specs.Files.{Reading, faulty, whole, differences_from, read_file}
use Rattle.region.specs.Ahead.{ahead}

abbrev pub after : List ℕ → Reading → Reading
after os (faulty f at) = faulty f at
after os (whole rest) = whole (os ++ rest)

abbrev pub passed : List ℕ → ℕ → List ℕ
passed s n = take n (ahead s (first_at s))

pub record Reached (s : List ℕ) (at n : ℕ) : Type 0 where
  pub fewer : n ≤ at
  pub few : n ≤ most_differences
  pub counted : length (passed s n) ≡ n
  pub onward : drop n (ahead s (first_at s)) ≡ ahead s at
  pub read : read_file s ≡ after (passed s n) (differences_from (length s - n) (width_of s) s at n)
