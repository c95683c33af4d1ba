-- Region files: one turn of their reading, what an accepted file holds, and that reading and writing undo one another.
--   from_end, from-refused, from-record    a reading at the file's end, at a refused record, at an accepted one; n counts the records before it
--   before-number                          a record read before the rest leaves the rest's refusal as it is
--   read-refused, read-begun               a file whose kind 1 record is refused, and one whose kind 1 record is accepted
--   Width, width-of          the facts about an accepted kind 1 record, and that one has them
--   first-six                behind an accepted kind 1 record the first difference stands at 6
--   Listed w s at n os       == os are the offsets of the accepted records from an offset to the end, with n before it
--   listed-turn              before the file's end the first is of an accepted record, and the others follow it
--   File, file-of            the facts about an accepted file, and that a file with no fault has them
--   file-good, file-cuts, file-count    the region read of an accepted file is Good, no difference has too many cuts, nor are they too many
--   write-file-read          an accepted file is written again with the same bytes
--   file-bytes               the file written is bytes
--   width_read, file-accepted, region-read    the file written is accepted, and its width and region are read again
use Prim.Native.Nat.{ℕ, zero, suc, ◌+◌, ◌-◌, ◌≤◌, ◌<◌}
use native.Mathlib.Omega.{arith}
use mathlib.Core.Path.{◌≡◌, refl, sym, ap, ◌∙◌}
use mathlib.Core.List.{List, [], ◌∷◌, ◌++◌}
use mathlib.Core.Bool.{Bool, true, false}
use lib.Dec.{leb, eqb, ltb}
use borrow.Author.Tests.{le-leb, lt-leb, leb-true, leb-false, eq-eqb, ne_eqb, eqb-true, eqb-false, ltb-false, le-ltb}
use lib.ListN.{length, drop, length-append, length-drop, length-map, drop_of_length-le, take-append-drop}
use lib.Seq.{drop-drop}
use Rattle.model.specs.Difference.{Region}
use Rattle.model.specs.Sized.{All, Good}
use Rattle.model.proofs.Bools.{or-none}
use Rattle.format.specs.Limits.{widest, most_cuts, most_differences, width_kind}
use Rattle.format.specs.Bytes.{Bytes}
use Rattle.format.specs.Records.{count_at, length_at, kind_at, next_at, width_of, first_at, width_rows, width_fault, difference_fault}
use Rattle.format.specs.Records.{difference_bytes, differences_bytes, width_bytes, file_bytes}
use Rattle.format.specs.Files.{Reading, faulty, whole, fault_number, offsets, before, differences_from, read_file, region_of, region_in}
use Rattle.format.specs.Told.{any_long}
use Rattle.format.proofs.Reached.{reached, clean}
use Rattle.format.proofs.Recording.{u16-same, Record, record_of, record-accepted, cuts-count, drop_past}
use Rattle.format.proofs.Recording.{length-written, bytes-written, bytes-append, next-read, difference-read, good-read, bytes_read}

-- one turn
module _ (w : ℕ) (s : List ℕ) (at n : ℕ) where
  pub from_end : (t : ℕ) → length s ≤ at → differences_from t w s at n ≡ whole []
  unfolding differences_from
  from_end zero h = refl
  from_end (suc t) h = rw (le-leb (length s) at h)

  turn-refused : (t : ℕ) → at < length s → (difference_fault false w n s at ≡ 0 → ⊥)
      → differences_from (suc t) w s at n ≡ faulty (difference_fault false w n s at) at
  unfolding differences_from
  turn-refused t h f = rw (lt-leb (length s) at h, ne_eqb (difference_fault false w n s at) 0 f)

  turn-record : (t : ℕ) → at < length s → difference_fault false w n s at ≡ 0
      → differences_from (suc t) w s at n ≡ before at (differences_from t w s (next_at s at) (n + 1))
  unfolding differences_from
  turn-record t h f = rw (lt-leb (length s) at h, eq-eqb (difference_fault false w n s at) 0 f)

  pub from-refused : n ≤ at → at < length s → (difference_fault false w n s at ≡ 0 → ⊥)
      → differences_from (length s - n) w s at n ≡ faulty (difference_fault false w n s at) at
  from-refused h l f = let e : length s - n ≡ suc (length s - (n + 1)) = omega arith in rw e (turn-refused (length s - (n + 1)) l f)

  pub from-record : n ≤ at → at < length s → difference_fault false w n s at ≡ 0
      → differences_from (length s - n) w s at n ≡ before at (differences_from (length s - (n + 1)) w s (next_at s at) (n + 1))
  from-record h l f = let e : length s - n ≡ suc (length s - (n + 1)) = omega arith in rw e (turn-record (length s - (n + 1)) l f)

pub before-number : (at : ℕ) (r : Reading) → fault_number (before at r) ≡ fault_number r
before-number at (faulty f o) = refl
before-number at (whole os) = refl

-- kind 1
pub read-refused : (s : List ℕ) → (width_fault s ≡ 0 → ⊥) → read_file s ≡ faulty (width_fault s) 0
unfolding read_file
read-refused s f = rw (ne_eqb (width_fault s) 0 f)

pub read-begun : (s : List ℕ) → width_fault s ≡ 0 → read_file s ≡ differences_from (length s - 0) (width_of s) s (first_at s) 0
unfolding read_file
read-begun s f = let e : length s - 0 ≡ length s = omega arith in rw (e, eq-eqb (width_fault s) 0 f)

pub record Width (s : List ℕ) : Type 0 where
  pub long : first_at s ≤ length s
  pub size : length_at s 0 ≡ 4
  pub kind : kind_at s 0 ≡ width_kind
  pub some : 1 ≤ width_of s
  pub narrow : width_of s ≤ widest

pub width-of : (s : List ℕ) → width_fault s ≡ 0 → Width s
unfolding width_fault first_at
width-of s e = let c = clean (width_rows s) (omega arith) e in omega arith

pub first-six : (s : List ℕ) → width_fault s ≡ 0 → first_at s ≡ 6
unfolding first_at
first-six s e = omega (arith, width-of s e)

-- the offsets of an accepted file
pub data Listed (w : ℕ) (s : List ℕ) : ℕ → ℕ → List ℕ → Type 0 where
  ended : {at n : ℕ} → length s ≤ at → Listed w s at n []
  listed : {at n : ℕ} {os : List ℕ} → Record false w n s at → Listed w s (next_at s at) (n + 1) os → Listed w s at n (at ∷ os)

-- a reading that refuses nothing gives such offsets
abbrev Lists : ℕ → List ℕ → ℕ → ℕ → Reading → Type 0
Lists w s at n r = fault_number r ≡ 0 → (os : List ℕ) × (r ≡ whole os) × Listed w s at n os

lists-turn : (w : ℕ) (s : List ℕ) (t at n : ℕ) (a b : Bool) → leb (length s) at ≡ a → eqb (difference_fault false w n s at) 0 ≡ b
    → Lists w s (next_at s at) (n + 1) (differences_from t w s (next_at s at) (n + 1)) → Lists w s at n (differences_from (suc t) w s at n)
lists-turn w s t at n true b p q later e = let h = leb-true (length s) at p in ([], from_end w s at n (suc t) h, ended h)
lists-turn w s t at n false false p q later e =
    let l = leb-false (length s) at p in
    let f = eqb-false (difference_fault false w n s at) 0 q in
    absurd (f (sym (ap fault_number (turn-refused w s at n t l f)) ∙ e))
lists-turn w s t at n false true p q later e =
    let l = leb-false (length s) at p in
    let f = eqb-true (difference_fault false w n s at) 0 q in
    let turn = turn-record w s at n t l f in
    let next = differences_from t w s (next_at s at) (n + 1) in
    let rest = later (sym (before-number at next) ∙ sym (ap fault_number turn) ∙ e) in
    (at ∷ rest.0, turn ∙ ap (before at) rest.1, listed (record_of false w n s at f) rest.2)

lists : (w : ℕ) (s : List ℕ) (t at n : ℕ) → length s ≤ at + t → Lists w s at n (differences_from t w s at n)
unfolding differences_from
lists w s zero at n h e = let l : length s ≤ at = omega arith in ([], refl, ended l)
lists w s (suc t) at n h e =
    let later = lists w s t (next_at s at) (n + 1) (omega arith) in
    lists-turn w s t at n (leb (length s) at) (eqb (difference_fault false w n s at) 0) refl refl later e

pub record File (s : List ℕ) : Type 0 where
  pub width : Width s
  pub read : read_file s ≡ whole (offsets (read_file s))
  pub list : Listed (width_of s) s (first_at s) 0 (offsets (read_file s))

file-of-lists : (s : List ℕ) (b : Bool) → eqb (width_fault s) 0 ≡ b → fault_number (read_file s) ≡ 0 → File s
file-of-lists s true p e =
    let f = eqb-true (width_fault s) 0 p in
    let begun = read-begun s f in
    let l = lists (width_of s) s (length s - 0) (first_at s) 0 (omega arith) (sym (ap fault_number begun) ∙ e) in
    let r : read_file s ≡ whole l.0 = begun ∙ l.1 in
    record { width = width-of s f; read = r ∙ ap whole (sym (ap offsets r)); list = rw (ap offsets r) l.2 }
file-of-lists s false p e =
    let f = eqb-false (width_fault s) 0 p in
    absurd (f (sym (ap fault_number (read-refused s f)) ∙ e))

pub file-of : (s : List ℕ) → fault_number (read_file s) ≡ 0 → File s
file-of s e = file-of-lists s (eqb (width_fault s) 0) refl e

-- what the offsets of an accepted file say
module _ {w : ℕ} {s : List ℕ} where
  pub listed-turn : {at n : ℕ} {os : List ℕ} → Listed w s at n os → at < length s
      → (later : List ℕ) × (os ≡ at ∷ later) × Record false w n s at × Listed w s (next_at s at) (n + 1) later
  listed-turn (ended h) l = absurd (omega arith)
  listed-turn (listed {os} r rest) l = (os, refl, r, rest)

  all-good : {at n : ℕ} {os : List ℕ} → Listed w s at n os → All (Good w) (region_of w s os)
  all-good (ended h) = tt
  all-good (listed r rest) = (good-read r, all-good rest)

  none-long : {at n : ℕ} {os : List ℕ} → Listed w s at n os → any_long (region_of w s os) ≡ false
  none-long (ended h) = refl
  none-long (listed {at} r rest) = rw (cuts-count r, le-ltb most_cuts (count_at s at) r.few) (none-long rest)

  few-listed : {at n : ℕ} {os : List ℕ} → Listed w s at n os → n ≤ most_differences → n + length os ≤ most_differences
  few-listed (ended h) l = omega arith
  few-listed (listed r rest) l = let m = few-listed rest (omega arith) in omega arith

  all-bytes : {at n : ℕ} {os : List ℕ} → Bytes s → Listed w s at n os → differences_bytes w (region_of w s os) ≡ drop at s
  all-bytes b (ended h) = sym (drop_of_length-le s h)
  all-bytes b (listed {at} r rest) =
      let z : next_at s at ≡ at + (2 + length_at s at) = omega arith in
      rw (bytes_read r b, all-bytes b rest, z, ← drop-drop, take-append-drop)

module _ {s : List ℕ} (f : File s) where
  pub file-good : All (Good (width_of s)) (region_in s)
  file-good = all-good f.list

  pub file-cuts : any_long (region_in s) ≡ false
  file-cuts = none-long f.list

  pub file-count : length (region_in s) ≤ most_differences
  file-count = simp length-map (omega (arith, few-listed f.list (omega arith)))

  front : Bytes s → s ≡ width_bytes (width_of s) ++ drop (first_at s) s
  unfolding first_at
  front b =
      let l : 6 ≤ length s = omega (arith, f.width) in
      let z : next_at s 0 ≡ 6 = omega (arith, f.width) in
      rw z
      (u16-same s 0 b (omega arith) ∙ rw (u16-same s 2 b (omega arith), u16-same s 4 b (omega arith), f.width.size, f.width.kind))

  pub write-file-read : Bytes s → file_bytes (width_of s) (region_in s) ≡ s
  unfolding file_bytes
  write-file-read b = rw (all-bytes b f.list) (sym (front b))

-- records, written
module _ (w : ℕ) (s : List ℕ) (narrow : w ≤ widest) where
  from-written : (r : Region) (t at n : ℕ) → All (Good w) r → any_long r ≡ false → n + length r ≤ most_differences → length s ≤ at + t
      → drop at s ≡ differences_bytes w r → (os : List ℕ) × (differences_from t w s at n ≡ whole os) × (region_of w s os ≡ r)
  from-written [] t at n g long few h e =
      let l : length s - at ≡ 0 = simp length-drop at (ap length e) in
      ([], from_end w s at n t (omega arith), refl)
  from-written (d ∷ r) zero at n g long few h e = absurd (omega (arith, length-written w d g.0, simp (length-drop, length-append) at (ap length e)))
  from-written (d ∷ r) (suc t) at n g long few h e =
      let l : length s - at ≡ length (difference_bytes w d) + length (differences_bytes w r) = simp (length-drop, length-append) at (ap length e) in
      let m = length-written w d g.0 in
      let parts = or-none (ltb most_cuts (length d.cuts)) (any_long r) long in
      let cuts = ltb-false most_cuts (length d.cuts) parts.0 in
      let next = next-read w d s (differences_bytes w r) at g.0 cuts narrow e in
      let fault = record-accepted w d s (differences_bytes w r) at g.0 cuts narrow e false n (omega arith) refl in
      let behind : drop (next_at s at) s ≡ differences_bytes w r = rw next (drop_past s (difference_bytes w d) _ at _ e refl) in
      let rest = from-written r t (next_at s at) (n + 1) g.1 parts.1 (omega arith) (omega arith) behind in
      let this = difference-read w d s (differences_bytes w r) at g.0 cuts narrow e in
      (at ∷ rest.0, turn-record w s at n t (omega arith) fault ∙ ap (before at) rest.1, λ i. this i ∷ rest.2 i)

differences-bytes : (w : ℕ) (r : Region) → any_long r ≡ false → Bytes (differences_bytes w r)
differences-bytes w [] long = tt
differences-bytes w (d ∷ r) long =
    let parts = or-none (ltb most_cuts (length d.cuts)) (any_long r) long in
    let this = bytes-written w d (ltb-false most_cuts (length d.cuts) parts.0) in
    bytes-append (difference_bytes w d) (differences_bytes w r) this (differences-bytes w r parts.1)

-- a file, written
pub file-bytes : (w : ℕ) (r : Region) → any_long r ≡ false → Bytes (file_bytes w r)
unfolding file_bytes
file-bytes w r long = (omega arith, (omega arith, (omega arith, (omega arith, (omega arith, (omega arith, differences-bytes w r long))))))

module _ (w : ℕ) (r : Region) (g : All (Good w) r) (cuts : any_long r ≡ false) (few : length r ≤ most_differences)
    (some : 1 ≤ w) (narrow : w ≤ widest) where
  pub width_read : width_of (file_bytes w r) ≡ w
  unfolding file_bytes
  width_read = omega arith

  width-accepted : width_fault (file_bytes w r) ≡ 0
  unfolding file_bytes width_fault
  width-accepted =
      let e = width_read in
      sym (reached 7 (width_rows (file_bytes w r)) (omega arith))

  read_back : (os : List ℕ) × (read_file (file_bytes w r) ≡ whole os) × (region_of w (file_bytes w r) os ≡ r)
  unfolding file_bytes first_at
  read_back =
      let s = file_bytes w r in
      let p = from-written w s narrow r (length s - 0) (first_at s) 0 g cuts (omega arith) (omega arith) refl in
      (p.0, read-begun s width-accepted ∙ rw width_read p.1, p.2)

  pub file-accepted : fault_number (read_file (file_bytes w r)) ≡ 0
  file-accepted = ap fault_number read_back.1

  pub region-read : region_in (file_bytes w r) ≡ r
  region-read = rw (width_read, read_back.1) read_back.2
