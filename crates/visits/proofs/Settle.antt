-- Paying the pieces of walks out of an allowance.
--   settle-le, settle-lt    the allowance pays every piece, or it does not
--   settle-on               n pieces are paid for and nothing survived: the rest goes on with what is left
--   settle-zero, settle-none   nothing is left to visit; no piece can be paid for
--   said-on, said-stop      of two walks: the first is covered, and the second goes on; or the first is the answer
--   stop-covered, stop-decided    where such walks stop: the first is covered, and it is one more than where the others stop; or it is the first
--   settle-keeps            what is left and what is spent make the same sum
--   said-allowance          what is said of a decided walk has the allowance that it left
--   decision-settle         on a fresh allowance a walk is decided as the model decides it
use Prim.Native.Nat.{ℕ, suc, ◌+◌, ◌-◌, ◌≤◌, ◌<◌, zero-le}
use native.Mathlib.Nat.{zero-add}
use native.Mathlib.Omega.{arith}
use mathlib.Core.Path.{◌≡◌, refl, sym, ◌∙◌}
use mathlib.Core.Bool.{Bool, true, false, cond}
use mathlib.Core.Logic.{◌⊎◌, inl, inr, ⊎_elim}
use mathlib.Core.List.{List, [], ◌∷◌}
use lib.Dec.{leb}
use borrow.Author.Tests.{le-leb, lt-leb, leb-true, leb-false}
use Rattle.model.specs.Walk.{Survivor, nothing, piece, Found, joined, next, covers, stop, decide, decided, undecided}
use Rattle.model.proofs.Turns.{next-by}
use Rattle.model.proofs.Stopping.{stop-on, stop-here}
use Rattle.visits.specs.Settle.{Said, after, said_of, unpaid, settle, decision}
use Rattle.visits.specs.declared.allowance.Allowance.{Allowance}
use Rattle.visits.specs.declared.allowance.Verdict.TheVariants.{Covered, Undecided}

le-or-lt : (m n : ℕ) → (m ≤ n) ⊎ (n < m)
le-or-lt m n = go (leb m n) refl
  where
    go : (b : Bool) → leb m n ≡ b → (m ≤ n) ⊎ (n < m)
    go true e = inl (leb-true m n e)
    go false e = inr (leb-false m n e)

pub settle-le : (a : Allowance) (v : Found) → v.pieces ≤ a.left → settle a v ≡ said_of (after a v.pieces) v.survivor
unfolding settle
settle-le a v h = rw (le-leb _ _ h)

pub settle-lt : (a : Allowance) (v : Found) → a.left < v.pieces → settle a v ≡ unpaid a
unfolding settle
settle-lt a v h = rw (lt-leb _ _ h)

allowance-path : (a b : Allowance) → a.left ≡ b.left → a.spent ≡ b.spent → a ≡ b
allowance-path a b p q = λ i. record { left = p i; spent = q i }

pub settle-on : (a : Allowance) (n : ℕ) (v : Found) → n ≤ a.left → settle a (joined n nothing v) ≡ settle (after a n) v
settle-on a n v h = ⊎_elim enough short (le-or-lt v.pieces (a.left - n))
  where
    enough : v.pieces ≤ a.left - n → settle a (joined n nothing v) ≡ settle (after a n) v
    enough k =
        let p : n + v.pieces ≤ a.left = omega arith in
        let e : after a (n + v.pieces) ≡ after (after a n) v.pieces = allowance-path _ _ (omega arith) (omega arith) in
        rw (settle-le a (joined n nothing v) p, settle-le (after a n) v k, e)

    short : a.left - n < v.pieces → settle a (joined n nothing v) ≡ settle (after a n) v
    short k =
        let p : a.left < n + v.pieces = omega arith in
        let e : after a a.left ≡ after (after a n) (a.left - n) = allowance-path _ _ (omega arith) (omega arith) in
        rw (settle-lt a (joined n nothing v) p, settle-lt (after a n) v k, e)

pub settle-zero : (a : Allowance) → settle a (record { pieces = 0; survivor = nothing }) ≡ record { allowance = a; verdict = Covered; piece = [] }
settle-zero a =
    let e : after a 0 ≡ a = allowance-path _ _ (omega arith) (omega arith) in
    rw (settle-le a (record { pieces = 0; survivor = nothing }) zero-le, e)

pub settle-none : (a : Allowance) (v : Found) → a.left ≡ 0 → 0 < v.pieces → settle a v ≡ record { allowance = a; verdict = Undecided; piece = [] }
settle-none a v z h =
    let p : a.left < v.pieces = omega arith in
    let e : after a a.left ≡ a = allowance-path _ _ (omega arith) (omega arith) in
    rw (settle-lt a v p, e)

covered-nothing : (a : Allowance) (s : Survivor) → (said_of a s).verdict ≡ Covered → s ≡ nothing
covered-nothing a nothing e = refl
covered-nothing a (piece p) e = let z : ◌≡◌ {A = ℕ} 0 1 = cc in absurd (omega arith)

settle-covered : (a : Allowance) (v u : Found) → (settle a v).verdict ≡ Covered → settle a (next v u) ≡ settle (settle a v).allowance u
settle-covered a v u e = ⊎_elim enough short (le-or-lt v.pieces a.left)
  where
    enough : v.pieces ≤ a.left → settle a (next v u) ≡ settle (settle a v).allowance u
    enough k =
        let d = settle-le a v k in
        let q = covered-nothing (after a v.pieces) v.survivor (rw d at e) in
        rw (d, q) (settle-on a v.pieces u k)

    short : a.left < v.pieces → settle a (next v u) ≡ settle (settle a v).allowance u
    short k =
        let q : Undecided ≡ Covered = rw (settle-lt a v k) at e in
        let z : ◌≡◌ {A = ℕ} 0 1 = cc in absurd (omega arith)

settle-stop : (a : Allowance) (v u : Found) → ((settle a v).verdict ≡ Covered → ⊥) → settle a (next v u) ≡ settle a v
settle-stop a v u e = next-by (λ w. settle a w ≡ settle a v) v u (λ q. ⊎_elim (enough q) short (le-or-lt v.pieces a.left)) (λ p q. refl)
  where
    enough : v.survivor ≡ nothing → v.pieces ≤ a.left → settle a (joined v.pieces nothing u) ≡ settle a v
    enough q k = absurd (e (rw (settle-le a v k, q)))

    short : a.left < v.pieces → settle a (joined v.pieces nothing u) ≡ settle a v
    short k =
        let p : a.left < v.pieces + u.pieces = omega arith in
        rw (settle-lt a (joined v.pieces nothing u) p, settle-lt a v k)

-- two walks, where d is what is said of the first
module _ (a : Allowance) (v u : Found) (d : Said) (e : d ≡ settle a v) where
  pub said-on : d.verdict ≡ Covered → settle a (next v u) ≡ settle d.allowance u
  said-on c = rw e (settle-covered a v u (rw e at c))

  pub said-stop : (d.verdict ≡ Covered → ⊥) → d ≡ settle a (next v u)
  said-stop c = e ∙ sym (settle-stop a v u (rw e at c))

-- where such walks stop
module _ (a : Allowance) (v : Found) (d : Said) (e : d ≡ settle a v) where
  pub stop-covered : d.verdict ≡ Covered → (vs : List Found) → stop a.left (v ∷ vs) ≡ suc (stop d.allowance.left vs)
  stop-covered c vs = ⊎_elim enough short (le-or-lt v.pieces a.left)
    where
      enough : v.pieces ≤ a.left → stop a.left (v ∷ vs) ≡ suc (stop d.allowance.left vs)
      enough k =
          let z = e ∙ settle-le a v k in
          let q = covered-nothing (after a v.pieces) v.survivor (rw z at c) in
          stop-on a.left v vs (rw (le-leb _ _ k, q)) ∙ rw (z, q)

      short : a.left < v.pieces → stop a.left (v ∷ vs) ≡ suc (stop d.allowance.left vs)
      short k =
          let q : Undecided ≡ Covered = rw (e ∙ settle-lt a v k) at c in
          let z : ◌≡◌ {A = ℕ} 0 1 = cc in absurd (omega arith)

  pub stop-decided : (d.verdict ≡ Covered → ⊥) → (vs : List Found) → stop a.left (v ∷ vs) ≡ 0
  stop-decided c vs = stop-here a.left v vs (go (leb v.pieces a.left) refl v.survivor refl)
    where
      go : (b : Bool) → leb v.pieces a.left ≡ b → (s : Survivor) → v.survivor ≡ s → covers a.left v ≡ false
      go true l nothing q = absurd (c (rw (e, settle-le a v (leb-true _ _ l), q)))
      go true l (piece p) q = rw (l, q)
      go false l s q = rw l

pub said-allowance : (a : Allowance) (s : Survivor) → (said_of a s).allowance ≡ a
said-allowance a nothing = refl
said-allowance a (piece p) = refl

settle-sum : (a : Allowance) (v : Found) → (settle a v).allowance.left + (settle a v).allowance.spent ≡ a.left + a.spent
settle-sum a v =
    ⊎_elim (λ k. rw (settle-le a v k, said-allowance (after a v.pieces) v.survivor) (omega arith)) (λ k. rw (settle-lt a v k) (omega arith))
    (le-or-lt v.pieces a.left)

pub settle-keeps : (a : Allowance) (v : Found) (d : Said) → d ≡ settle a v → d.allowance.left + d.allowance.spent ≡ a.left + a.spent
settle-keeps a v d e = rw e (settle-sum a v)

said-decided : (a : Allowance) (i : ℕ) (s : Survivor) → decision i (said_of a s) ≡ decided a.spent i s
said-decided a i nothing = refl
said-decided a i (piece p) = refl

pub decision-settle : (n i : ℕ) (v : Found) → decision i (settle (record { left = n; spent = 0 }) v) ≡ decide n i v
unfolding settle decide
decision-settle n i v = go (leb v.pieces n)
  where
    fresh : Allowance
    fresh = record { left = n; spent = 0 }

    go : (g : Bool) → decision i (cond g (said_of (after fresh v.pieces) v.survivor) (unpaid fresh))
        ≡ cond g (decided v.pieces i v.survivor) (undecided n i)
    go true = said-decided (after fresh v.pieces) i v.survivor ∙ rw zero-add
    go false = rw zero-add
