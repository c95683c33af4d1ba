-- What a table leaves unwritten and uncounted (`Kept`), and what that says of the bytes told.
--   Mute k           == no row of the table k writes or counts anything or has an index, but for its last line
--   LastLine P k     == P holds of the last line of k where every test fails
--   told-by          what holds of all that writes and counts nothing and has no index, and of the last line, holds of what such a table gives
--   kept             so what such a table gives is Kept where its last line is
--   none_written     what is Kept has no byte where its result is a refusal, yes or undecided
--   written          where it is Permitted, the result says how many bytes it has
use Prim.Native.Nat.{ℕ}
use native.Mathlib.Omega.{arith}
use mathlib.Core.Path.{◌≡◌, refl, ap, ◌∙◌}
use mathlib.Core.List.{List, [], ◌∷◌}
use mathlib.Core.Logic.{inl, inr}
use lib.ListN.{length}
use Rattle.answer.specs.declared.Answer.{Answer}
use Rattle.answer.specs.Answer.{no_difference}
use Rattle.format.specs.Rows.{Rows, last, row, outcome, Fails}
use Rattle.format.specs.Told.{Told, Permitted}
use Rattle.format.proofs.Reached.{each}
use Rattle.promises.specs.Outcome.{Kept, Unwritten}

abbrev pub Mute : Rows Told → Type 0
Mute (last x) = Unit {0}
Mute (row t x k) =
    (length x.bytes ≡ 0) × (x.answer.written ≡ 0) × (x.answer.count ≡ 0) × (x.answer.index ≡ no_difference) × Mute k

abbrev pub LastLine : (Told → Type 0) → Rows Told → Type 0
LastLine P (last x) = P x
LastLine P (row t x k) = Fails t → LastLine P k

module _ (P : Told → Type 0)
    (still : (x : Told) → length x.bytes ≡ 0 → x.answer.written ≡ 0 → x.answer.count ≡ 0 → x.answer.index ≡ no_difference → P x) where
  pub told-by : (k : Rows Told) → Mute k → LastLine P k → P (outcome k)
  unfolding outcome
  told-by (last x) m e = e
  told-by (row t x k) (bytes, written, count, index, mute) e =
      each P (row t x (last (outcome k))) (λ h. still x bytes written count index, λ f. told-by k mute (e f))

pub kept : (room : ℕ) (k : Rows Told) → Mute k → LastLine (Kept room) k → Kept room (outcome k)
kept room = told-by (Kept room) (λ x e f c i. omega arith)

-- the bytes
pub none_written : {room : ℕ} {x : Told} → Kept room x → Unwritten x.answer → x.bytes ≡ []
none_written {room} {x} k q = no_bytes x.bytes (none q)
  where
    none : Unwritten x.answer → length x.bytes ≡ 0
    none (inl h) = k.refused h
    none (inr (inl h)) = k.yes h
    none (inr (inr h)) = k.undecided h

    no_bytes : (bs : List ℕ) → length bs ≡ 0 → bs ≡ []
    no_bytes [] e = refl
    no_bytes (b ∷ bs) e = absurd (omega arith)

pub written : {room : ℕ} {t : Told} {old : List ℕ} {r : Answer} {new : List ℕ}
    → Kept room t → Permitted t old r new → r.written ≡ length t.bytes
written k p = ap (λ (a : Answer). a.written) p.answer ∙ k.told
