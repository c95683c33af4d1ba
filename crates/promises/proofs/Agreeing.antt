-- What contracts permit, and that two permitted outcomes agree.
--   permitted        the two clauses of a contract with a buffer are what is Permitted
--   agree            a call that is lent a buffer has one outcome, whatever it tells
--   same-result      so has a contract that says only what the result is
use Prim.Native.Nat.{ℕ}
use mathlib.Core.Path.{◌≡◌, sym, ◌∙◌}
use mathlib.Core.List.{List}
use Rattle.answer.specs.declared.Answer.{Answer}
use Rattle.format.specs.Told.{Told, over, Permitted}
use Rattle.promises.specs.Outcome.{OneOutcome, OneResult}

pub permitted : {t : Told} {old : List ℕ} {r : Answer} {new : List ℕ} → (r ≡ t.answer) × (new ≡ over old t.bytes) → Permitted t old r new
permitted (answer, buffer) = record { answer = answer; buffer = buffer }

pub agree : (t : Told) (old : List ℕ) → OneOutcome t old
agree t old r r' new new' p q = (p.answer ∙ sym q.answer, p.buffer ∙ sym q.buffer)

pub same-result : {A : Type 0} (a : A) → OneResult a
same-result a r r' p q = p ∙ sym q
