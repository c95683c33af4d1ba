-- Where a call is answered: what it accepts.
--   Tells Ok y x             == x, told by a call, is no refusal exactly where Ok holds, and is then y
--   yes_no b, writes bs       == yes where b is true, else no; the bytes bs, written
--   one_holds b               == yes, by the one difference that is lent, where b is true, else no
--   Cubes w a b              == W is in its bounds, and both lent cubes are accepted
--   Bits n used bs           == bs are the bytes of n positions, and no bit is set after the first `used`
--   Accepted s               == the region file s is accepted
--   Writable w r room        == the region r is within the limits, and its file fits into that room
--   Prefixed w s n m value   == W, the field, the prefix length and the value are in their bounds
--   Fields w p q n           == W and the two fields are in their bounds, and n is at most 32 where the starts differ
--   Indexed s d i            == the file s is accepted, and has a difference of index d with a cube of index i
-- A single record's is `Lent`, of format.
use Rattle.std.specs.Prelude.{ℕ, ◌+◌, ◌≤◌, ◌<◌, ◌≡◌, List, Bool, false, cond, length, drop}
use Rattle.model.specs.Difference.{Region}
use Rattle.model.specs.Index.{difference_of}
use Rattle.answer.specs.Answer.{yes, no, holding, wrote}
use Rattle.format.specs.Limits.{widest, most_differences}
use Rattle.format.specs.Bytes.{header_len, bits, any_bit, lent_fault}
use Rattle.format.specs.Records.{file_bytes}
use Rattle.format.specs.Files.{read_file, fault_number, region_in}
use Rattle.format.specs.Told.{Told, silent, any_long}

pub record Tells (Ok : Type 0) (y x : Told) : Type 0 where
  pub accepted : x.answer.number < 10 → Ok
  pub told : Ok → x ≡ y

abbrev pub yes_no : Bool → Told
yes_no b = silent (cond b yes no)

abbrev pub one_holds : Bool → Told
one_holds b = silent (cond b (holding 0) no)

abbrev pub writes : List ℕ → Told
writes bs = record { answer = wrote (length bs); bytes = bs }

-- what is accepted
pub record Cubes (w : ℕ) (a b : List ℕ) : Type 0 where
  pub some : 1 ≤ w
  pub narrow : w ≤ widest
  pub first : lent_fault w a ≡ 0
  pub second : lent_fault w b ≡ 0

pub record Bits (n used : ℕ) (bs : List ℕ) : Type 0 where
  pub long : length bs ≡ header_len n
  pub clear : any_bit (drop used (bits bs)) ≡ false

abbrev pub Accepted : List ℕ → Type 0
Accepted s = fault_number (read_file s) ≡ 0

pub record Writable (w : ℕ) (r : Region) (room : ℕ) : Type 0 where
  pub cuts : any_long r ≡ false
  pub few : length r ≤ most_differences
  pub fits : length (file_bytes w r) ≤ room

pub record Prefixed (w s n m : ℕ) (value : List ℕ) : Type 0 where
  pub some : 1 ≤ w
  pub narrow : w ≤ widest
  pub field : 1 ≤ n
  pub inside : s + n ≤ w
  pub short : m ≤ n
  pub given : Bits n m value

pub record Fields (w p q n : ℕ) : Type 0 where
  pub some : 1 ≤ w
  pub narrow : w ≤ widest
  pub field : 1 ≤ n
  pub first : p + n ≤ w
  pub second : q + n ≤ w
  pub few : (p ≡ q → ⊥) → n ≤ 32

pub record Indexed (s : List ℕ) (d i : ℕ) : Type 0 where
  pub file : Accepted s
  pub difference : d < length (region_in s)
  pub index : i ≤ length (difference_of (region_in s) d).cuts
