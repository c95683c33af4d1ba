-- What the reader of records and of a whole file gives back.
--   slices_fault w cs       == what is wrong with the first bad one of the cubes of w positions cs, or 0
--   ReadIs w n s at x       == x is what reading the record at an offset of a file gives: its difference and where the next record starts, or its fault, with
--                              n differences before it
--   RefusedIs s r           == r is why the file s is refused and where, and its width
--   AcceptedIs s f          == f is of the accepted file s: its width, and how many differences it has
--   FileIs s x              == x is what reading the file s gives
--   AskedOn s h a           == a is of the accepted file s: its width, how many differences it has, and the first of them that holds what h spells
--   AskedIs s h x           == x is what reading the file s gives, where a header is asked for
--   BegunOn s r, BegunIs s x  == r is a reader of the file s before its first difference; x is what beginning to read it gives
--   Turned r t d            == a turn of the reader r accepted the record at its place, with the difference d, and left the reader t
--   Ended r t               == a turn of the reader r came to the end of the file
--   TurnIs r t x            == x is what a turn of the reader r gives, which left the reader t
use Rattle.std.specs.Prelude.{ℕ, ◌+◌, ◌<◌, ◌≡◌, List, [], ◌∷◌, false, cond, eqb, length, Option, Result, MatchOption, MatchResult}
use Rattle.std.specs.Borrow.{Bor}
use Rattle.answer.specs.declared.refusal.Refusal.{Refusal}
use Rattle.answer.specs.Refusals.{number_of}
use Rattle.format.specs.Bytes.{cube_fault}
use Rattle.format.specs.Records.{width_of, difference_fault}
use Rattle.format.specs.Files.{whole, read_file, fault_number, fault_offset, offsets}
use Rattle.region.specs.declared.difference.Difference.{Difference}
use Rattle.region.specs.declared.record.Record.{Record}
use Rattle.region.specs.declared.files.File.{File}
use Rattle.region.specs.declared.files.Refused.{Refused}
use Rattle.region.specs.declared.asking.Asked.{Asked}
use Rattle.region.specs.declared.records.Records.{Records}
use Rattle.region.specs.Front.{front_at}
use Rattle.region.specs.Difference.{DifferenceAt}
use Rattle.region.specs.Asked.{first_record, holder_of}
use Rattle.region.specs.Reached.{passed}

abbrev pub slices_fault : ℕ → List (List ℕ) → ℕ
slices_fault w [] = 0
slices_fault w (c ∷ cs) = cond (eqb (cube_fault w c) 0) (slices_fault w cs) (cube_fault w c)

abbrev pub ReadIs : ℕ → ℕ → List ℕ → ℕ → Result Record Refusal → Type 0
ReadIs w n s at x =
    MatchResult x (λ r. (difference_fault false w n s at ≡ 0) × DifferenceAt w s at r.difference × (r.next ≡ (front_at s at).next))
    (λ r. number_of r ≡ difference_fault false w n s at)

pub record RefusedIs (s : List ℕ) (r : Refused) : Type 0 where
  pub number : number_of r.refusal ≡ fault_number (read_file s)
  pub offset : r.offset ≡ fault_offset (read_file s)
  pub width : r.width ≡ width_of s

pub record AcceptedIs (s : List ℕ) (f : File) : Type 0 where
  pub accepted : fault_number (read_file s) ≡ 0
  pub width : f.width ≡ width_of s
  pub count : f.count ≡ length (offsets (read_file s))

abbrev pub FileIs : List ℕ → Result File Refused → Type 0
FileIs s x = MatchResult x (AcceptedIs s) (RefusedIs s)

pub record AskedOn (s h : List ℕ) (a : Asked) : Type 0 where
  pub accepted : fault_number (read_file s) ≡ 0
  pub width : a.width ≡ width_of s
  pub count : a.count ≡ length (offsets (read_file s))
  pub holder : holder_of a.holder ≡ first_record (width_of s) h s (offsets (read_file s))

abbrev pub AskedIs : List ℕ → List ℕ → Result Asked Refused → Type 0
AskedIs s h x = MatchResult x (AskedOn s h) (RefusedIs s)

pub record BegunOn (s : Bor (List ℕ)) (r : Records) : Type 0 where
  pub file : r.file ≡ s
  pub none : r.count ≡ 0

abbrev pub BegunIs : Bor (List ℕ) → Result Records Refused → Type 0
BegunIs s x = MatchResult x (BegunOn s) (RefusedIs s.now)

pub record Turned (r t : Records) (d : Difference) : Type 0 where
  pub file : t.file ≡ r.file
  pub more : t.count ≡ r.count + 1
  pub place : t.place ≡ (front_at r.file.now r.place).next
  pub here : r.place < length r.file.now
  pub sound : difference_fault false (width_of r.file.now) r.count r.file.now r.place ≡ 0
  pub difference : DifferenceAt (width_of r.file.now) r.file.now r.place d

pub record Ended (r t : Records) : Type 0 where
  pub file : t.file ≡ r.file
  pub same : t.count ≡ r.count
  pub whole : read_file r.file.now ≡ whole (passed r.file.now r.count)

abbrev pub TurnIs : Records → Records → Result (Option Difference) Refused → Type 0
TurnIs r t x = MatchResult x (λ y. MatchOption y (Ended r t) (Turned r t)) (RefusedIs r.file.now)
