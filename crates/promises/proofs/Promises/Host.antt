-- What is promised of the functions for a C host, `permit_member` and `permit_empty`, and of the question program. Beside the lines that the page has of
-- every call:
--   question-long, question-asks    what the question program tells of a long input, and of any other
use Prim.Native.Nat.{ℕ, ◌≤◌, ◌<◌}
use native.Mathlib.Omega.{arith}
use mathlib.Core.Path.{◌≡◌, sym}
use mathlib.Core.List.{List}
use lib.ListN.{length}
use Rattle.answer.specs.Answer.{refused}
use Rattle.format.specs.Limits.{most_input}
use Rattle.format.specs.Told.{silent}
use Rattle.format.specs.Calls.{region_member, region_empty, question}
use Rattle.format.proofs.Reached.{reached}
use Rattle.broker.proofs.permit_member as permit-member-call
use Rattle.broker.proofs.permit_empty as permit-empty-call
pub use Rattle.broker.proofs.permit_member.Met.{met as permit-member-met}
pub use Rattle.broker.proofs.permit_empty.Met.{met as permit-empty-met}
use Rattle.promises.specs.Outcome.{Promise, Buffered, OneOutcome, OneResult, Kept}
use Rattle.promises.proofs.Agreeing.{permitted}
use Rattle.promises.proofs.Keeping.{kept}
use Rattle.promises.proofs.Promises.Membership.{region_member-agrees}
use Rattle.promises.proofs.Promises.Walks.{region_empty-agrees, region_empty-kept}

-- FORMAT 100: what the C host asks of a region
pub permit-member-promise : Promise permit-member-call.Kinds.ps permit-member-call.Kinds.r permit-member-call.Reads.Asked permit-member-call.Reads.Learnt
    (λ κs (s, (h, _)) x e. x ≡ (region_member s.now h.now).answer)
permit-member-promise = record { anything = λ κs a. tt; permits = λ κs a x e l. l }

pub permit-member-agrees : (s h : List ℕ) → OneResult (region_member s h).answer
permit-member-agrees = region_member-agrees

pub permit-empty-promise : Promise permit-empty-call.Kinds.ps permit-empty-call.Kinds.r permit-empty-call.Reads.Asked permit-empty-call.Reads.Learnt
    (λ κs (s, (n, (old, _))) x (_, (_, (new, _))). Buffered (region_empty s.now n) old x new)
permit-empty-promise = record { anything = λ κs a. tt; permits = λ κs a x e. permitted }

pub permit-empty-agrees : (s : List ℕ) (n : ℕ) (old : List ℕ) → OneOutcome (region_empty s n (length old)) old
permit-empty-agrees = region_empty-agrees

-- The question program: 25 of a long input (FORMAT 49), and of any other emptiness with its allowance (FORMAT 140).
module _ (s : List ℕ) where
  pub question-long : most_input < length s → question s ≡ silent (refused 25)
  unfolding question
  question-long h = sym (reached 0 _ h)

  pub question-asks : length s ≤ most_input → question s ≡ region_empty s 1000000 40
  unfolding question
  question-asks h = sym (reached 1 _ (h, tt))

  pub question-kept : Kept 40 (question s)
  unfolding question
  question-kept = kept 40 _ (omega arith) (λ small. region_empty-kept s 1000000 40)
