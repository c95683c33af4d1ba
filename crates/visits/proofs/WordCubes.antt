-- Cubes in words.
--   row-length               the length of a cube in a row
--   words-ext                words that have the codes of a cube are that cube
--   words-given              a free position takes a value
--   first-is, before-first   the first position that opens; no position before it does
--   bit-zero                 a test whose number is 0 fails
use Prim.Native.Nat.{ℕ, zero, suc, ◌+◌, ◌/◌, ◌%◌, ◌<◌}
use native.Mathlib.Omega.{arith}
use mathlib.Core.Path.{◌≡◌, refl, ap, ◌∙◌}
use mathlib.Core.Bool.{Bool, true, false, cond}
use mathlib.Core.Logic.{⊎_elim}
use mathlib.Core.List.{List, [], ◌∷◌}
use lib.ListN.{length, get_or, set, length-set}
use lib.Seq.{get_or-set_same, get_or-set_other}
use Rattle.model.specs.Cube.{Code, none, Cube}
use Rattle.model.specs.Walk.{opens}
use Rattle.format.specs.Bytes.{code_of}
use Rattle.visits.specs.Opening.{bit, first_open}
use Rattle.visits.specs.Words.{number_in, code_in, tabled, cube_of_words, row_cube, GivenWord}
use Rattle.visits.specs.Places.{words-length, words-at}
use Rattle.visits.proofs.Digits.{same_or_not}

tabled-ext : (n : ℕ) (f : ℕ → Code) (i : ℕ) (p : Cube) → length p ≡ n → ((k : ℕ) → k < n → f (i + k) ≡ get_or p k none) → tabled n f i ≡ p
unfolding tabled
tabled-ext zero f i [] e t = refl
tabled-ext zero f i (x ∷ p) e t = absurd (omega arith)
tabled-ext (suc n) f i [] e t = absurd (omega arith)
tabled-ext (suc n) f i (x ∷ p) e t =
    let z : i + 0 ≡ i = omega arith in
    let h : f i ≡ x = rw z at (t 0 (omega arith)) in
    rw h (ap (λ (c : Cube). x ∷ c) (tabled-ext n f (suc i) p (omega arith)
    (λ k l. let s : suc i + k ≡ i + suc k = omega arith in rw s (t (suc k) (omega arith)))))

pub words-ext : (ws : List ℕ) (p : Cube) → length p ≡ 320 → ((i : ℕ) → i < 320 → code_in ws i ≡ get_or p i none) → cube_of_words ws ≡ p
unfolding cube_of_words
words-ext ws p e t = tabled-ext 320 (code_in ws) 0 p e (λ k h. let z : 0 + k ≡ k = omega arith in rw z (t k h))

pub row-length : (cuts : List (List ℕ)) (j : ℕ) → length (row_cube cuts j) ≡ 320
unfolding row_cube
row-length cuts j = words-length (get_or cuts j [])

pub words-given : (ws : List ℕ) (i v r : ℕ) → length ws ≡ 10 → i < 320 → GivenWord (get_or ws (i / 32) 0) (i % 32) v r
    → cube_of_words (set ws (i / 32) r) ≡ set (cube_of_words ws) i (code_of v)
unfolding number_in
words-given ws i v r l h g =
    words-ext (set ws (i / 32) r) (set (cube_of_words ws) i (code_of v)) (length-set (cube_of_words ws) i (code_of v) ∙ words-length ws)
    (λ j k. ⊎_elim (same j k) (λ (n : j ≡ i → ⊥). elsewhere j k n) (same_or_not j i))
  where
    within : i / 32 < length ws
    within = omega arith

    same : (j : ℕ) → j < 320 → j ≡ i → code_in (set ws (i / 32) r) j ≡ get_or (set (cube_of_words ws) i (code_of v)) j none
    same j k e =
        rw (e, get_or-set_same ws (i / 32) r 0 within, get_or-set_same (cube_of_words ws) i (code_of v) none (omega (arith, words-length ws))) (ap code_of g.0)

    elsewhere : (j : ℕ) → j < 320 → (j ≡ i → ⊥) → code_in (set ws (i / 32) r) j ≡ get_or (set (cube_of_words ws) i (code_of v)) j none
    elsewhere j k n =
        rw (get_or-set_other (cube_of_words ws) i j (code_of v) none n, words-at ws j k)
        (⊎_elim (λ (e : j / 32 ≡ i / 32). rw (e, get_or-set_same ws (i / 32) r 0 within)
        (ap code_of (g.1 (j % 32) (omega arith) (λ (q : j % 32 ≡ i % 32). n (omega arith)))))
        (λ (e : j / 32 ≡ i / 32 → ⊥). rw (get_or-set_other ws (i / 32) (j / 32) r 0 e)) (same_or_not (j / 32) (i / 32)))

-- the first position that opens
pub first-is : (p c : Cube) (i : ℕ) → length p ≡ length c → i < length p → opens (get_or p i none) (get_or c i none) ≡ true
    → ((j : ℕ) → j < i → opens (get_or p j none) (get_or c j none) ≡ false) → i ≡ first_open p c
unfolding first_open
first-is [] c i e h o n = absurd (omega arith)
first-is (x ∷ p) [] i e h o n = absurd (omega arith)
first-is (x ∷ p) (y ∷ c) zero e h o n = rw o
first-is (x ∷ p) (y ∷ c) (suc i) e h o n = rw (n 0 (omega arith)) (ap suc (first-is p c i (omega arith) (omega arith) o (λ j k. n (suc j) (omega arith))))

pub before-first : (p c : Cube) (j : ℕ) → length p ≡ length c → j < first_open p c → opens (get_or p j none) (get_or c j none) ≡ false
unfolding first_open
before-first [] c j e h = absurd (omega arith)
before-first (x ∷ p) [] j e h = absurd (omega arith)
before-first (x ∷ p) (y ∷ c) j e h = go (opens x y) refl j h (before-first p c)
  where
    go : (b : Bool) → opens x y ≡ b → (j : ℕ) → j < cond b 0 (suc (first_open p c))
        → ((j : ℕ) → length p ≡ length c → j < first_open p c → opens (get_or p j none) (get_or c j none) ≡ false)
        → opens (get_or (x ∷ p) j none) (get_or (y ∷ c) j none) ≡ false
    go true q j l ih = absurd (omega arith)
    go false q zero l ih = q
    go false q (suc j) l ih = ih j (omega arith) (omega arith)

pub bit-zero : (b : Bool) → bit b ≡ 0 → b ≡ false
bit-zero true e = absurd (omega arith)
bit-zero false e = refl
