-- What a call may do, and that it may do one thing.
--   Promise ps r Asked Learnt P == a contract takes anything, and what it permits has P. The prover writes each contract down as a caller has it:
--                               `Asked` is what a caller has to show of the arguments, and `Learnt` what it learns of them, the result and the
--                               arguments at exit, in the order of the call's parameters
--   Buffered tell old x new  == what a call that is lent the buffer `old` permits: `tell` is what it tells of the buffer's room, and the result x and
--                               the buffer at exit, `new`, are Permitted by that
--   OneOutcome t old         == two outcomes that are Permitted have the same result, so the same number, operand, offset, count, bytes written and
--                               index, and the same buffer
--   OneResult a              == the same of a contract that says only that the result is a
--   SameStretch r r'         == the references r and r' hand back the same bytes at the same place
--   Kept room x              == x is told by a call that was lent a buffer of that room: it writes nothing where it refuses, says yes or is
--                               undecided; where it refuses it counts nothing, and no difference decided; what it writes is as long as its result
--                               says, and fits
--   Unwritten r              == the result r is a refusal, yes or undecided
use Rattle.std.specs.Prelude.{ℕ, ◌≤◌, ◌≡◌, List, ◌⊎◌, length}
use contract.Lifetimes.{Lfts}
use Rattle.std.specs.Borrow.{Bor, MutBor}
use denote.Triple.Clauses.{AtExit}
use borrow.Fn.Kind.{ParamKind, ResultKind}
use borrow.Fn.Kinds.{In, Out, Dens, res_t, ended_of}
use Rattle.answer.specs.declared.Answer.{Answer}
use Rattle.answer.specs.Answer.{no_difference}
use Rattle.format.specs.Told.{Told, Permitted}

pub record Promise {n : ℕ} (ps : List (ParamKind n)) (r : ResultKind n) (Asked : In n ps) (Learnt P : Out n ps r) : Type 0 where
  pub anything : (κs : Lfts n) (a : Dens κs ps) → Asked κs a
  pub permits : (κs : Lfts n) (a : Dens κs ps) (x : (res_t r κs).Denot) (e : AtExit (ended_of n ps r) κs) → Learnt κs a x e → P κs a x e

abbrev pub Buffered : (ℕ → Told) → MutBor (List ℕ) → Answer → MutBor (List ℕ) → Type 0
Buffered tell old x new = Permitted (tell (length old.now)) old.now x new.now

abbrev pub OneOutcome : Told → List ℕ → Type 0
OneOutcome t old = (r r' : Answer) (new new' : List ℕ) → Permitted t old r new → Permitted t old r' new' → (r ≡ r') × (new ≡ new')

abbrev pub OneResult : {A : Type 0} → A → Type 0
OneResult {A} a = (r r' : A) → r ≡ a → r' ≡ a → r ≡ r'

abbrev pub SameStretch : Bor (List ℕ) → Bor (List ℕ) → Type 0
SameStretch r r' = (r.now ≡ r'.now) × (r.ref_ptr ≡ r'.ref_ptr)

pub record Kept (room : ℕ) (x : Told) : Type 0 where
  pub refused : 10 ≤ x.answer.number → length x.bytes ≡ 0
  pub yes : x.answer.number ≡ 1 → length x.bytes ≡ 0
  pub undecided : x.answer.number ≡ 3 → length x.bytes ≡ 0
  pub uncounted : 10 ≤ x.answer.number → x.answer.count ≡ 0
  pub unindexed : 10 ≤ x.answer.number → x.answer.index ≡ no_difference
  pub told : x.answer.written ≡ length x.bytes
  pub fits : length x.bytes ≤ room

-- FORMAT 50
abbrev pub Unwritten : Answer → Type 0
Unwritten r = (10 ≤ r.number) ⊎ (r.number ≡ 1) ⊎ (r.number ≡ 3)
