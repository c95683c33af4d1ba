-- The tests that calls start with, each as one question: r is the first refusal, or has the number 0.
--   Accepts a          == the number of a is 0, which refuses nothing
--   tests-refused, tests-passed, tests-past    of any tests p: a refusal is what the table gives; where there is none it goes on, and each test fails
--   tested-refused, tested-passed    how two tables of tests in a row end: with the refusal of the first, or else as the second does
--   lent-tested    how the tests of a lent cube or record end, from what is wrong with it
--   width-refused, pair-refused, one-refused, two-refused, record-refused, bits-refused    a refusal is what the call's table gives
--   width-passed, pair-passed, one-passed, two-passed, record-passed, bits-passed    where there is none, the table goes on
--   width-lent, pair-lent, one_lent, two_lent, record-lent, bits-lent    where there is none, what was lent is accepted
--   file-refused, file-passed    a file's refusal is what the table gives; where there is none, the table goes on
--   silent-out, told-out    the result and the buffer of a call that is lent one: where nothing is written, and where x is told
--   silent-answer, silent-bytes, told-answer, told-bytes    each of the two by itself
--   frame_refused, frame-clean    what is wrong with a record's length or kind is what the table gives; where nothing
--                      is, each test fails
--   numbers-refused, numbers-passed, numbers-clean    likewise of all that stands before a record's cubes; where
--                      nothing is wrong with it, the table goes on
use Rattle.std.specs.Prelude.{Result, Ok, Err}
use Prim.Native.Nat.{ℕ, ◌≤◌}
use native.Mathlib.Omega.{arith}
use mathlib.Core.Path.{◌≡◌, refl, sym, ap, subst, ◌∙◌}
use mathlib.Core.List.{List}
use mathlib.Core.Bool.{Bool, true, false}
use lib.ListN.{length, drop}
use Rattle.answer.specs.declared.Answer.{Answer}
use Rattle.answer.specs.Answer.{accepted, fault}
use Rattle.answer.specs.declared.refusal.Refusal.{Refusal}
use Rattle.answer.specs.Refusals.{code, Tested, LentAs}
use Rattle.format.specs.Rows.{Rows, last, row, isnt, onto, then, outcome}
use Rattle.format.specs.Limits.{widest}
use Rattle.format.specs.Bytes.{header_len, bits, any_bit, lent_fault}
use Rattle.format.specs.Records.{frame_rows, number_rows, difference_fault}
use Rattle.format.specs.Files.{read_file, fault_number, fault_offset}
use Rattle.format.specs.Told.{Told, over, silent, width_tests, record_tests, bits_tests, two_cubes, one_record, two_records, lent_record, lent_file, lent_bits}
use Rattle.format.specs.Meaning.{Lent}
use Rattle.format.proofs.Refusals.{numbered}
use Rattle.format.proofs.Reached.{reached, skipped, Ends, Refuses, Past, refused, passed, past, clean}

abbrev pub Accepts : Answer → Type 0
Accepts a = a.number ≡ 0

module _ (p : Rows Answer) (r : Answer) (e : r ≡ outcome p) where
  pub tests-refused : {A : Type 0} (f : Answer → A) (k : Rows A) → Ends Accepts p → (r.number ≡ 0 → ⊥) → f r ≡ outcome (onto f p k)
  tests-refused f k h n = ap f e ∙ refused Accepts f p k h (λ z. n (ap (λ (a : Answer). a.number) e ∙ z))

  pub tests-passed : {A : Type 0} (f : Answer → A) (k : Rows A) → Refuses Accepts p → r.number ≡ 0 → outcome k ≡ outcome (onto f p k)
  tests-passed f k h z = passed Accepts f p k h (ap (λ (a : Answer). a.number) (sym e) ∙ z)

  pub tests-past : Refuses Accepts p → r.number ≡ 0 → Past (outcome p) p
  tests-past h z = past Accepts p h (ap (λ (a : Answer). a.number) (sym e) ∙ z)

-- how tests end
module _ (p k : Rows Answer) where
  pub tested-refused : (x : Answer) → Ends Accepts p → Tested (outcome p) (Err x) → Tested (outcome (then p k)) (Err x)
  tested-refused x h t = (tests-refused p x t.0 (λ a. a) k h t.1, t.1)

  pub tested-passed : (r : Result Unit Answer) → Refuses Accepts p → Tested (outcome p) (Ok tt) → Tested (outcome k) r → Tested (outcome (then p k)) r
  tested-passed r h t e = subst (λ (a : Answer). Tested a r) (tests-passed p accepted (sym t) (λ a. a) k h refl) e

-- how the tests of a lent operand end, which are one test of the fault f
pub lent-tested : (f o : ℕ) (x : Result Unit Refusal) (r : Result Unit Answer) → code x ≡ f → LentAs x o r
    → Tested (outcome (row (isnt f 0) (fault f o 0) (last accepted))) r
lent-tested f o (Ok u) r e h =
    let p : Rows Answer = row (isnt f 0) (fault f o 0) (last accepted) in
    subst (λ (y : Result Unit Answer). Tested (outcome p) y) (sym h) (sym (reached 1 p (sym e, tt)))
lent-tested f o (Err g) r e h =
    let p : Rows Answer = row (isnt f 0) (fault f o 0) (last accepted) in
    let n = numbered g in
    rw h (ap (λ (n : ℕ). fault n o 0) e ∙ reached 0 p (λ z. n (e ∙ z)), n)

-- a width given directly; what follows makes of a refusal what f says
module _ (w : ℕ) (r : Answer) (e : r ≡ outcome (width_tests w)) where
  pub width-refused : {A : Type 0} (f : Answer → A) (k : Rows A) → (r.number ≡ 0 → ⊥) → f r ≡ outcome (onto f (width_tests w) k)
  width-refused f k = tests-refused (width_tests w) r e f k (omega arith)

  pub width-passed : {A : Type 0} (f : Answer → A) (k : Rows A) → r.number ≡ 0 → outcome k ≡ outcome (onto f (width_tests w) k)
  width-passed f k = tests-passed (width_tests w) r e f k (omega arith)

  pub width-lent : r.number ≡ 0 → (1 ≤ w) × (w ≤ widest)
  width-lent z = let p = tests-past (width_tests w) r e (omega arith) z in (omega arith, p.1.0)

-- and two cubes
module _ (w : ℕ) (a b : List ℕ) (r : Answer) (e : r ≡ outcome (two_cubes w a b)) where
  pub pair-refused : {A : Type 0} (f : Answer → A) (k : Rows A) → (r.number ≡ 0 → ⊥) → f r ≡ outcome (onto f (two_cubes w a b) k)
  pair-refused f k = tests-refused (two_cubes w a b) r e f k (omega arith)

  pub pair-passed : {A : Type 0} (f : Answer → A) (k : Rows A) → r.number ≡ 0 → outcome k ≡ outcome (onto f (two_cubes w a b) k)
  pair-passed f k = tests-passed (two_cubes w a b) r e f k (omega arith)

  pub pair-lent : r.number ≡ 0 → (lent_fault w a ≡ 0) × (lent_fault w b ≡ 0)
  pair-lent z = let p = tests-past (two_cubes w a b) r e (omega arith) z in (p.1.1.0, p.1.1.1.0)

-- and one record
module _ (w : ℕ) (s : List ℕ) (r : Answer) (e : r ≡ outcome (one_record w s)) where
  pub one-refused : {A : Type 0} (f : Answer → A) (k : Rows A) → (r.number ≡ 0 → ⊥) → f r ≡ outcome (onto f (one_record w s) k)
  one-refused f k = tests-refused (one_record w s) r e f k (omega arith)

  pub one-passed : {A : Type 0} (f : Answer → A) (k : Rows A) → r.number ≡ 0 → outcome k ≡ outcome (onto f (one_record w s) k)
  one-passed f k = tests-passed (one_record w s) r e f k (omega arith)

  pub one_lent : r.number ≡ 0 → Lent w s
  one_lent z = let p = tests-past (one_record w s) r e (omega arith) z in record { some = omega arith; narrow = p.1.0; sound = p.1.1.0 }

-- and two records
module _ (w : ℕ) (s t : List ℕ) (r : Answer) (e : r ≡ outcome (two_records w s t)) where
  pub two-refused : (k : Rows Told) → (r.number ≡ 0 → ⊥) → silent r ≡ outcome (onto silent (two_records w s t) k)
  two-refused k = tests-refused (two_records w s t) r e silent k (omega arith)

  pub two-passed : (k : Rows Told) → r.number ≡ 0 → outcome k ≡ outcome (onto silent (two_records w s t) k)
  two-passed k = tests-passed (two_records w s t) r e silent k (omega arith)

  pub two_lent : r.number ≡ 0 → Lent w s × Lent w t
  two_lent z =
      let p = tests-past (two_records w s t) r e (omega arith) z in (
        record { some = omega arith; narrow = p.1.0; sound = p.1.1.0 },
        record { some = omega arith; narrow = p.1.0; sound = p.1.1.1.0 },
      )

-- a record beside a file's width
module _ (w : ℕ) (s : List ℕ) (o : ℕ) (r : Answer) (e : r ≡ outcome (record_tests w s o)) where
  pub record-refused : (k : Rows Told) → (r.number ≡ 0 → ⊥) → silent r ≡ outcome (lent_record w s o k)
  record-refused k = tests-refused (record_tests w s o) r e silent k (omega arith)

  pub record-passed : (k : Rows Told) → r.number ≡ 0 → outcome k ≡ outcome (lent_record w s o k)
  record-passed k = tests-passed (record_tests w s o) r e silent k (omega arith)

  pub record-lent : r.number ≡ 0 → difference_fault true w 0 s 0 ≡ 0
  record-lent z = (tests-past (record_tests w s o) r e (omega arith) z).0

-- the bytes of a header or a field's value
module _ (n used : ℕ) (bs : List ℕ) (r : Answer) (e : r ≡ outcome (bits_tests n used bs)) where
  pub bits-refused : (k : Rows Told) → (r.number ≡ 0 → ⊥) → silent r ≡ outcome (lent_bits n used bs k)
  bits-refused k = tests-refused (bits_tests n used bs) r e silent k (omega arith)

  pub bits-passed : (k : Rows Told) → r.number ≡ 0 → outcome k ≡ outcome (lent_bits n used bs k)
  bits-passed k = tests-passed (bits_tests n used bs) r e silent k (omega arith)

  pub bits-lent : r.number ≡ 0 → (length bs ≡ header_len n) × (any_bit (drop used (bits bs)) ≡ false)
  bits-lent z = let p = tests-past (bits_tests n used bs) r e (omega arith) z in (p.0, p.1.0)

-- a file, of which the reader gives the number and the offset apart
module _ (s : List ℕ) (o : ℕ) (k : Rows Told) where
  pub file-refused : (f at : ℕ) → f ≡ fault_number (read_file s) → at ≡ fault_offset (read_file s) → (f ≡ 0 → ⊥)
      → silent (fault f o at) ≡ outcome (lent_file s o k)
  file-refused f at d e n = rw (d, e) (reached 0 (lent_file s o k) (λ z. n (d ∙ z)))

  pub file-passed : fault_number (read_file s) ≡ 0 → outcome k ≡ outcome (lent_file s o k)
  file-passed z = skipped 1 (lent_file s o k) (z, tt)

-- the result and the buffer
pub silent-answer : {t : Told} {r a : Answer} → r ≡ a → silent a ≡ t → r ≡ t.answer
silent-answer e f = e ∙ ap (λ (x : Told). x.answer) f

pub silent-bytes : {t : Told} {a : Answer} {old : List ℕ} → silent a ≡ t → old ≡ over old t.bytes
silent-bytes {old = old} f = ap (λ (x : Told). over old x.bytes) f

pub silent-out : {t : Told} {r a : Answer} {old : List ℕ} → r ≡ a → silent a ≡ t → (r ≡ t.answer) × (old ≡ over old t.bytes)
silent-out e f = (silent-answer e f, silent-bytes f)

pub told-answer : {x t : Told} {r : Answer} → x ≡ t → r ≡ x.answer → r ≡ t.answer
told-answer g e = e ∙ ap (λ (y : Told). y.answer) g

pub told-bytes : {x t : Told} (old : List ℕ) {new : List ℕ} → x ≡ t → new ≡ over old x.bytes → new ≡ over old t.bytes
told-bytes old g f = f ∙ ap (λ (y : Told). over old y.bytes) g

pub told-out : {x t : Told} {r : Answer} (old : List ℕ) {new : List ℕ} → r ≡ x.answer → new ≡ over old x.bytes → x ≡ t
    → (r ≡ t.answer) × (new ≡ over old t.bytes)
told-out old e f g = (told-answer g e, told-bytes old g f)

-- the length and the kind of a record, and all its numbers: r is what is wrong, or 0
module _ (kind : ℕ) (s : List ℕ) (at r : ℕ) (e : r ≡ outcome (frame_rows kind s at)) where
  pub frame_refused : (k : Rows ℕ) → (r ≡ 0 → ⊥) → r ≡ outcome (then (frame_rows kind s at) k)
  frame_refused k n = e ∙ refused (λ n. n ≡ 0) (λ n. n) (frame_rows kind s at) k (omega arith) (λ z. n (e ∙ z))

  pub frame-clean : r ≡ 0 → Past 0 (frame_rows kind s at)
  frame-clean z = clean (frame_rows kind s at) (omega arith) (sym e ∙ z)

module _ (alone : Bool) (w n : ℕ) (s : List ℕ) (at r : ℕ) (e : r ≡ outcome (number_rows alone w n s at)) where
  pub numbers-refused : (k : Rows ℕ) → (r ≡ 0 → ⊥) → r ≡ outcome (then (number_rows alone w n s at) k)
  numbers-refused k f = e ∙ refused (λ m. m ≡ 0) (λ m. m) (number_rows alone w n s at) k (omega arith) (λ z. f (e ∙ z))

  pub numbers-passed : (k : Rows ℕ) → r ≡ 0 → outcome k ≡ outcome (then (number_rows alone w n s at) k)
  numbers-passed k z = passed (λ m. m ≡ 0) (λ m. m) (number_rows alone w n s at) k (omega arith) (sym e ∙ z)

  pub numbers-clean : r ≡ 0 → Past 0 (number_rows alone w n s at)
  numbers-clean z = clean (number_rows alone w n s at) (omega arith) (sym e ∙ z)
