-- What is promised of reading on, by `read_on`, `first_step`, `begin_reading` and `step_on`. Beside the lines that the page has of every call:
--   read_on-shows, read_on-end, read_on-stays    what a step's 1 and 2 say, and that the place stays where the number is not 1
--   read_on-first            the first difference stands at 6
--   read_on-record, read_on-last, read_on-refused, read_on-width-refused    a step at an accepted record, at the file's end, at a refused record, and
--                            in a file whose kind 1 record is refused
--   accepted-steps           the steps of an accepted file give each difference once, in order, and then 2 for ever
--   passed-steps, refused-steps    those of a refused file give the differences before the refused record, and then, but for 19, that refusal for ever
--   reader-steps             a reader's steps are those of reading on in its file from its place
-- Of a result that holds the lent file, as those of `begin_reading` and `step_on` do, the prover keeps no `Learnt`, so these two have no -promise line.
use Prim.Native.Nat.{ℕ, ◌+◌}
use native.Mathlib.Omega.{arith}
use mathlib.Core.Path.{◌≡◌, sym, ap}
use mathlib.Core.List.{List, ◌++◌, map}
use mathlib.Core.Bool.{false}
use lib.ListN.{length, replicate}
use denote.Ref.{Bor}
use Rattle.answer.specs.Answer.{no, fault, placed}
use Rattle.format.specs.Records.{next_at, width_of, width_fault, difference_fault}
use Rattle.format.specs.Files.{faulty, whole, read_file}
use Rattle.format.specs.Calls as calls
use Rattle.format.specs.Calls.{stay, start_of, read_on}
use Rattle.format.specs.Meaning.{Onward}
use Rattle.format.proofs.Reached.{reached}
use Rattle.format.proofs.Recording.{record_of}
use Rattle.format.proofs.Filing.{first-six}
use Rattle.format.proofs.Viewing
use Rattle.region.specs.declared.steps.Step.{Step}
use Rattle.region.specs.declared.reader.Reader.{Reader}
use Rattle.region.specs.Viewing.{stepped}
use Rattle.region.specs.Stepping.{begun, turned, answers, told, records_before}
use Rattle.region.proofs.Stepping
use Rattle.region.proofs.read_on as read_on-call
use Rattle.region.proofs.first_step as first-step-call
pub use Rattle.region.proofs.read_on.Met.{met as read_on-met}
pub use Rattle.region.proofs.first_step.Met.{met as first-step-met}
pub use Rattle.region.proofs.begin_reading.Met.{met as begin-reading-met}
pub use Rattle.region.proofs.step_on.Met.{met as step-on-met}
use Rattle.promises.specs.Outcome.{Promise, OneResult}
use Rattle.promises.proofs.Agreeing.{same-result}

-- READ_ON: a step from a place (FORMAT 94 to 99)
pub read_on-promise : Promise read_on-call.Kinds.ps read_on-call.Kinds.r read_on-call.Reads.Asked read_on-call.Reads.Learnt
    (λ κs (s, (place, _)) x e. stepped x ≡ read_on s.now place)
read_on-promise = record { anything = λ κs a. tt; permits = λ κs a x e l. l }

module _ (s : List ℕ) (place : ℕ) where
  pub read_on-agrees : (r r' : Step) → stepped r ≡ read_on s place → stepped r' ≡ read_on s place → r ≡ r'
  read_on-agrees r r' p q =
      ap {B = Step} (λ (x : calls.Step). record { answer = x.answer; place = x.place }) (same-result (read_on s place) (stepped r) (stepped r') p q)

  pub read_on-shows : (read_on s place).answer.number ≡ 1 → Onward s place (read_on s place)
  read_on-shows = Viewing.read_on-record s place

  pub read_on-end : (read_on s place).answer.number ≡ 2 → (width_fault s ≡ 0) × (start_of s place ≡ length s)
  read_on-end = Viewing.read_on-end s place

  pub read_on-stays : ((read_on s place).answer.number ≡ 1 → ⊥) → (read_on s place).place ≡ place
  read_on-stays = Viewing.read_on-stays s place

  pub read_on-record : width_fault s ≡ 0 → difference_fault false (width_of s) 0 s (start_of s place) ≡ 0
      → read_on s place ≡ record { answer = placed (start_of s place); place = next_at s (start_of s place) }
  unfolding read_on
  read_on-record w f =
      let r = record_of false (width_of s) 0 s (start_of s place) f in
      sym (reached 3 _ (w, (λ e. omega arith, (f, tt))))

  pub read_on-last : width_fault s ≡ 0 → start_of s place ≡ length s → read_on s place ≡ stay no place
  unfolding read_on
  read_on-last w e = sym (reached 1 _ (w, e))

  pub read_on-refused : width_fault s ≡ 0 → (start_of s place ≡ length s → ⊥)
      → (difference_fault false (width_of s) 0 s (start_of s place) ≡ 0 → ⊥)
      → read_on s place ≡ stay (fault (difference_fault false (width_of s) 0 s (start_of s place)) 1 (start_of s place)) place
  unfolding read_on
  read_on-refused w e f = sym (reached 2 _ (w, (e, f)))

  pub read_on-width-refused : (width_fault s ≡ 0 → ⊥) → read_on s place ≡ stay (fault (width_fault s) 1 0) place
  unfolding read_on
  read_on-width-refused f = sym (reached 0 _ f)

-- FIRST_STEP: reading on from place 0
pub first-step-promise : Promise first-step-call.Kinds.ps first-step-call.Kinds.r first-step-call.Reads.Asked first-step-call.Reads.Learnt
    (λ κs (s, _) x e. stepped x ≡ read_on s.now 0)
first-step-promise = record { anything = λ κs a. tt; permits = λ κs a x e l. l }

pub first-step-agrees : (s : List ℕ) (r r' : Step) → stepped r ≡ read_on s 0 → stepped r' ≡ read_on s 0 → r ≡ r'
first-step-agrees s = read_on-agrees s 0

pub read_on-first : (s : List ℕ) → width_fault s ≡ 0 → start_of s 0 ≡ 6
read_on-first = first-six

-- Step after step: each difference of an accepted file once, in order, at its record's offset, and then 2 for ever; of
-- a refused file the differences before the refused record, and then that refusal for ever. No step counts records
-- (FORMAT 99): a file that is refused with 19 is read on past its 256th difference.
pub accepted-steps : (s : List ℕ) {os : List ℕ} → read_file s ≡ whole os → (m : ℕ)
    → answers (length os + m) s 0 ≡ map placed os ++ replicate m no
accepted-steps = Stepping.accepted-steps

pub passed-steps : (s : List ℕ) {f at : ℕ} → read_file s ≡ faulty f at → answers (length (records_before s at)) s 0 ≡ map placed (records_before s at)
passed-steps = Stepping.passed-steps

pub refused-steps : (s : List ℕ) {f at : ℕ} → read_file s ≡ faulty f at → (f ≡ 19 → ⊥) → (m : ℕ)
    → answers (length (records_before s at) + m) s 0 ≡ map placed (records_before s at) ++ replicate m (fault f 1 at)
refused-steps = Stepping.refused-steps

-- BEGIN_READING, STEP_ON. The reader's steps are those of reading on in its file from its place; a reader that begins is at place 0.
pub begin-reading-agrees : (file : Bor (List ℕ)) → OneResult (begun file)
begin-reading-agrees file = same-result _

pub step-on-agrees : (reader : Reader) → OneResult (turned reader)
step-on-agrees reader = same-result _

pub reader-steps : (n : ℕ) (r : Reader) → told n r ≡ answers n r.file.now r.place
reader-steps = Stepping.told-answers
