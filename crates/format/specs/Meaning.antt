-- What the calls' answers mean, in words that more than one statement uses.
--   Lent w s                 == W is in its bounds, and the single record s is accepted beside it
--   Inside w a b, Outside w a b == every header of the cube in the bytes a is in the cube in b; one is not
--   Written w r bs           == the bytes bs are an accepted file of width w that holds the region r
--   WrittenCube w c bs       == the bytes bs are accepted as a lent cube of w positions, and it is c
--   Shown w In x             == the bytes that x writes are a header of w positions that In holds of
--   cubes_of d                == the cubes of the difference d by index; 0 is the base
--   Seen s d i v             == the stretch v of the file s is the cube of index i in its difference of index d
--   Onward s place x         == the step x from a place gives the accepted record there, and the next place is that record's end
use Rattle.std.specs.Prelude.{ℕ, ◌+◌, ◌≤◌, ◌<◌, ◌≡◌, List, [], ◌∷◌, Bool, true, false, length, get_or, take, drop}
use Rattle.model.specs.Cube.{Header, Cube, holds}
use Rattle.model.specs.Difference.{Difference, Region}
use Rattle.model.specs.Index.{difference_of}
use Rattle.format.specs.Limits.{widest}
use Rattle.format.specs.Bytes.{Bytes, header_len, cube_len, bits, any_bit, read_header, read_cube, cube_fault, lent_fault}
use Rattle.format.specs.Records.{next_at, width_of, width_fault, difference_fault}
use Rattle.format.specs.Files.{read_file, fault_number, region_in}
use Rattle.format.specs.Told.{Told}
use Rattle.format.specs.Calls.{Viewed, Step, start_of}

-- FORMAT 25
pub record Lent (w : ℕ) (s : List ℕ) : Type 0 where
  pub some : 1 ≤ w
  pub narrow : w ≤ widest
  pub sound : difference_fault true w 0 s 0 ≡ 0

abbrev pub Inside : ℕ → List ℕ → List ℕ → Type 0
Inside w a b = (h : Header) → holds (read_cube w a) h ≡ true → holds (read_cube w b) h ≡ true

abbrev pub Outside : ℕ → List ℕ → List ℕ → Type 0
Outside w a b = (h : Header) × (holds (read_cube w a) h ≡ true) × (holds (read_cube w b) h ≡ false)

-- FORMAT 120, of a region written
pub record Written (w : ℕ) (r : Region) (bs : List ℕ) : Type 0 where
  pub bytes : Bytes bs
  pub accepted : fault_number (read_file bs) ≡ 0
  pub width : width_of bs ≡ w
  pub region : region_in bs ≡ r

-- FORMAT 120, of a cube written
pub record WrittenCube (w : ℕ) (c : Cube) (bs : List ℕ) : Type 0 where
  pub bytes : Bytes bs
  pub accepted : lent_fault w bs ≡ 0
  pub cube : read_cube w bs ≡ c

pub record Shown (w : ℕ) (In : Header → Bool) (x : Told) : Type 0 where
  pub long : length x.bytes ≡ header_len w
  pub told : x.answer.written ≡ header_len w
  pub clear : any_bit (drop w (bits x.bytes)) ≡ false
  pub wide : length (read_header w x.bytes) ≡ w
  pub inside : In (read_header w x.bytes) ≡ true

abbrev pub cubes_of : Difference → List Cube
cubes_of d = d.base ∷ d.cuts

pub record Seen (s : List ℕ) (d i : ℕ) (v : Viewed) : Type 0 where
  pub difference : d < length (region_in s)
  pub index : i ≤ length (difference_of (region_in s) d).cuts
  pub size : v.size ≡ cube_len (width_of s)
  pub inside : v.start + v.size ≤ length s
  pub sound : cube_fault (width_of s) (take v.size (drop v.start s)) ≡ 0
  pub cube : read_cube (width_of s) (take v.size (drop v.start s)) ≡ get_or (cubes_of (difference_of (region_in s) d)) i []

pub record Onward (s : List ℕ) (place : ℕ) (x : Step) : Type 0 where
  pub width : width_fault s ≡ 0
  pub begun : x.answer.offset ≡ start_of s place
  pub sound : difference_fault false (width_of s) 0 s (start_of s place) ≡ 0
  pub end : x.place ≡ next_at s (start_of s place)
