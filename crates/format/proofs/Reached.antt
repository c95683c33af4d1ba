-- A table's outcome from the facts on the way to a row: every test above it fails, and its own holds.
--   reached n k h      the outcome of k is that of row n, counted from 0; a number past the rows is the last line
--   each P k h         what holds of every row's outcome holds of the table's
--   fails t h          a test that fails is false
--   rest n k           the rows of k after the first n
--   Skips n k          == the first n tests of k fail
--   skipped n k h      where they do, the outcome is that of the rows after them
--   Ends Ok p          == Ok holds of the last line of p, and of no row's outcome
--   Refuses Ok p       == Ok holds of no row's outcome in p
--   refused, passed    a table before another: where Ok does not hold of its outcome, that is the outcome of both; where it does, the other goes on
--   Past x k           == every test of k fails, and x is its last line
--   past               where Ok holds of the outcome of a table that Refuses, every test fails
--   clean              where a table of numbers gives 0, which no row of it does, every test fails
use Prim.Native.Nat.{ℕ, zero, suc}
use mathlib.Core.Path.{◌≡◌, refl, subst}
use mathlib.Core.Bool.{Bool, true, false, cond}
use borrow.Author.Tests.{lt-ltb, le-ltb, eq-eqb, ne_eqb, ltb-true, ltb-false, eqb-true, eqb-false, not-true, not-false}
use Rattle.format.specs.Rows.{Test, below, is, isnt, so, passes, Rows, last, row, outcome, onto, Holds, Fails, Each, Reaches, nth}

holds : (t : Test) → Holds t → passes t ≡ true
unfolding passes
holds (below m n) h = lt-ltb m n h
holds (is m n) h = eq-eqb m n h
holds (isnt m n) h = rw (ne_eqb m n h)
holds (so b) h = h

pub fails : (t : Test) → Fails t → passes t ≡ false
unfolding passes
fails (below m n) h = le-ltb m n h
fails (is m n) h = ne_eqb m n h
fails (isnt m n) h = rw (eq-eqb m n h)
fails (so b) h = h

held : (t : Test) → passes t ≡ true → Holds t
unfolding passes
held (below m n) e = ltb-true m n e
held (is m n) e = eqb-true m n e
held (isnt m n) e = eqb-false m n (not-true _ e)
held (so b) e = e

failed : (t : Test) → passes t ≡ false → Fails t
unfolding passes
failed (below m n) e = ltb-false m n e
failed (is m n) e = eqb-false m n e
failed (isnt m n) e = eqb-true m n (not-false _ e)
failed (so b) e = e

module _ {A : Type 0} where
  pub reached : (n : ℕ) (k : Rows A) → Reaches n k → nth n k ≡ outcome k
  unfolding outcome
  reached n (last a) h = refl
  reached zero (row t a k) h = rw (holds t h)
  reached (suc n) (row t a k) h = rw (fails t h.0) (reached n k h.1)

  one : (P : A → Type 0) (t : Test) (a x : A) (b : Bool) → passes t ≡ b → (Holds t → P a) → (Fails t → P x) → P (cond b a x)
  one P t a x true e f g = f (held t e)
  one P t a x false e f g = g (failed t e)

  pub each : (P : A → Type 0) (k : Rows A) → Each P k → P (outcome k)
  unfolding outcome
  each P (last a) h = h
  each P (row t a k) h = one P t a (outcome k) (passes t) refl h.0 (λ f. each P k (h.1 f))

  abbrev pub rest : ℕ → Rows A → Rows A
  rest zero k = k
  rest (suc n) (last a) = last a
  rest (suc n) (row t a k) = rest n k

  abbrev pub Skips : ℕ → Rows A → Type 0
  Skips zero k = Unit {0}
  Skips (suc n) (last a) = Unit {0}
  Skips (suc n) (row t a k) = Fails t × Skips n k

  abbrev pub Past : A → Rows A → Type 0
  Past x (last y) = x ≡ y
  Past x (row t y k) = Fails t × Past x k

  pub skipped : (n : ℕ) (k : Rows A) → Skips n k → outcome (rest n k) ≡ outcome k
  unfolding outcome
  skipped zero k h = refl
  skipped (suc n) (last a) h = refl
  skipped (suc n) (row t a k) h = rw (fails t h.0) (skipped n k h.1)

-- a table before another
module _ {A : Type 0} (Ok : A → Type 0) where
  abbrev pub Ends : Rows A → Type 0
  Ends (last a) = Ok a
  Ends (row t a p) = (Holds t → Ok a → ⊥) × Ends p

  abbrev pub Refuses : Rows A → Type 0
  Refuses (last a) = Unit {0}
  Refuses (row t a p) = (Holds t → Ok a → ⊥) × Refuses p

  module _ {B : Type 0} (f : A → B) where
    pub refused : (p : Rows A) (k : Rows B) → Ends p → (Ok (outcome p) → ⊥) → f (outcome p) ≡ outcome (onto f p k)
    unfolding outcome
    refused (last a) k e n = absurd (n e)
    refused (row t a p) k e n = go (passes t) n (refused p k e.1)
      where
        go : (b : Bool) → (Ok (cond b a (outcome p)) → ⊥) → ((Ok (outcome p) → ⊥) → f (outcome p) ≡ outcome (onto f p k))
            → f (cond b a (outcome p)) ≡ cond b (f a) (outcome (onto f p k))
        go true n later = refl
        go false n later = later n

    pub passed : (p : Rows A) (k : Rows B) → Refuses p → Ok (outcome p) → outcome k ≡ outcome (onto f p k)
    unfolding outcome
    passed (last a) k r o = refl
    passed (row t a p) k r o = go (passes t) refl o (passed p k r.1)
      where
        go : (b : Bool) → passes t ≡ b → Ok (cond b a (outcome p)) → (Ok (outcome p) → outcome k ≡ outcome (onto f p k))
            → outcome k ≡ cond b (f a) (outcome (onto f p k))
        go true h o later = absurd (r.0 (held t h) o)
        go false h o later = later o

  pub past : (k : Rows A) → Refuses k → Ok (outcome k) → Past (outcome k) k
  unfolding outcome
  past (last x) r l = refl
  past (row t x k) r l = each (λ y. Ok y → Past y (row t x k)) (row t x (last (outcome k))) (λ h m. absurd (r.0 h m), λ f m. (f, past k r.1 m)) l

pub clean : (k : Rows ℕ) → Refuses (λ n. n ≡ 0) k → outcome k ≡ 0 → Past 0 k
clean k r e = subst (λ (n : ℕ). Past n k) e (past (λ n. n ≡ 0) k r e)
