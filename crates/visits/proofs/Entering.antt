-- The tables of a long walk.
--   DigitMore, digit-more     a number takes a digit above all that it has
--   free-words                words of all digits are a cube of free positions
--   fresh, enter-fits, enter-turn, enter-end   a cut is entered, position by position
--   Agrees, agree-turn                where a position takes the cut's code, the others are free or the cut's as before
--   EnteredAll, entered-more  the cuts are entered, one after another
--   met-more                  the cuts that a piece meets, one after another
use Prim.Native.Nat.{ℕ, zero, suc, ◌+◌, ◌-◌, ◌*◌, ◌/◌, ◌%◌, ◌^◌, ◌≤◌, ◌<◌}
use native.Mathlib.Nat.{div-eq_of_lt}
use native.Mathlib.Omega.{arith}
use mathlib.Core.Path.{◌≡◌, refl, sym, ap, ◌∙◌}
use mathlib.Core.Bool.{Bool, true, false, true≢false}
use mathlib.Core.Logic.{◌⊎◌, inr, ⊎_elim}
use mathlib.Core.List.{List}
use lib.ListN.{length, get_or, set, replicate, get_or-replicate}
use lib.Seq.{get_or-set_same, get_or-set_other}
use Rattle.model.specs.Cube.{Code, none, v0, v1, free, Cube, shares}
use Rattle.model.specs.Walk.{opens}
use Rattle.format.specs.Bytes.{code_of, codes}
use Rattle.cube.specs.declared.row.Row.{Row}
use Rattle.visits.specs.Opening.{bit, first_open}
use Rattle.visits.specs.Words.{number_in, cube_of_words, row_cube}
use Rattle.visits.specs.Alive.{digit, clash, Against}
use Rattle.visits.specs.Loading.{cut_in, Entered, Met}
use Rattle.visits.proofs.Digits.{same_or_not, digit-below, digit-top, threes-at}
use Rattle.visits.proofs.Meeting.{pow-double}
use Rattle.visits.specs.Places.{words-length, words-at}
use Rattle.visits.proofs.WordCubes.{before-first}

pub record DigitMore (m x : ℕ) (b : Bool) : Type 0 where
  pub under : x + 2 ^ m * bit b < 2 ^ suc m
  pub below : (j : ℕ) → j < m → digit j (x + 2 ^ m * bit b) ≡ digit j x
  pub top : digit m (x + 2 ^ m * bit b) ≡ bit b

pub digit-more : (m x : ℕ) (b : Bool) → x < 2 ^ m → DigitMore m x b
digit-more m x true h =
    let e : x + 2 ^ m * 1 ≡ 2 ^ m + x = omega arith in
    record { under = omega (arith, pow-double m); below = λ j l. rw e (digit-below j m x l); top = rw e (digit-top m x h) }
digit-more m x false h =
    let e : x + 2 ^ m * 0 ≡ x = omega arith in
    record { under = omega (arith, pow-double m); below = λ j l. rw e; top = rw (e, div-eq_of_lt h) }

-- the codes of near are free or those of the cut
abbrev pub Agrees : Cube → Cube → Type 0
Agrees near cut = (j : ℕ) → j < 320 → (get_or near j none ≡ free) ⊎ (get_or near j none ≡ get_or cut j none)

-- all free
pub free-words : (j : ℕ) → j < 320 → get_or (cube_of_words (replicate 10 18446744073709551615)) j none ≡ free
unfolding number_in
free-words j h =
    words-at (replicate 10 18446744073709551615) j h
    ∙ rw (get_or-replicate {A = ℕ} 10 (j / 32) 18446744073709551615 0 (omega arith), threes-at (j % 32) (omega arith))

-- a value against a cut's code
clash-free : (x : Code) → clash x free ≡ false
clash-free none = refl
clash-free v0 = refl
clash-free v1 = refl
clash-free free = refl

clash-other : (y : ℕ) → 1 ≤ y → y ≤ 2 → clash (code_of (suc (2 - y))) (code_of y) ≡ true
clash-other zero h k = absurd (omega arith)
clash-other (suc zero) h k = refl
clash-other (suc (suc zero)) h k = refl
clash-other (suc (suc (suc y))) h k = absurd (omega arith)

clash-same : (v y : ℕ) → 1 ≤ y → y ≤ 2 → v < 2 → (v ≡ 2 - y → ⊥) → clash (code_of (suc v)) (code_of y) ≡ false
clash-same v zero h k l n = absurd (omega arith)
clash-same zero (suc zero) h k l n = refl
clash-same (suc v) (suc zero) h k l n = absurd (n (omega arith))
clash-same zero (suc (suc zero)) h k l n = absurd (n (omega arith))
clash-same (suc zero) (suc (suc zero)) h k l n = refl
clash-same (suc (suc v)) (suc (suc zero)) h k l n = absurd (omega arith)
clash-same v (suc (suc (suc y))) h k l n = absurd (omega arith)

closed-clash : (x y : Code) → opens free y ≡ false → clash x y ≡ clash x free
closed-clash none y e = refl
closed-clash v0 none e = refl
closed-clash v0 v0 e = absurd (true≢false e)
closed-clash v0 v1 e = absurd (true≢false e)
closed-clash v0 free e = refl
closed-clash v1 none e = refl
closed-clash v1 v0 e = absurd (true≢false e)
closed-clash v1 v1 e = absurd (true≢false e)
closed-clash v1 free e = refl
closed-clash free y e = refl

pub fresh : (rows : List ℕ) (one : ℕ) → Entered rows (cube_of_words (replicate 10 18446744073709551615)) one rows
fresh rows one i v h k = rw (free-words i h, clash-free (code_of (suc v))) (omega arith)

module _ (rows : List ℕ) (near : Cube) (one : ℕ) (after : List ℕ) (en : Entered rows near one after) (i y : ℕ) (h : i < 320) (least : 1 ≤ y) (most : y ≤ 2) (un : get_or near i none ≡ free) where
  pub enter-fits : get_or after (2 * i + (2 - y)) 0 ≡ get_or rows (2 * i + (2 - y)) 0
  enter-fits = en i (2 - y) h (omega arith) ∙ rw (un, clash-free (code_of (suc (2 - y)))) (omega arith)

  pub enter-turn : (l : length near ≡ 320) (p : Cube) → length after ≡ 640 → p ≡ set near i (code_of y)
      → Entered rows p one (set after (2 * i + (2 - y)) (get_or after (2 * i + (2 - y)) 0 + one))
  enter-turn l p la ep j v k w = rw ep (⊎_elim (λ (e : j ≡ i). same e) (λ (n : j ≡ i → ⊥). other n) (same_or_not j i))
    where
      r : ℕ
      r = 2 * i + (2 - y)

      other : (j ≡ i → ⊥) → get_or (set after r (get_or after r 0 + one)) (2 * j + v) 0 ≡ get_or rows (2 * j + v) 0 + one * bit
          (clash (code_of (suc v)) (get_or (set near i (code_of y)) j none))
      other n =
          get_or-set_other after r (2 * j + v) (get_or after r 0 + one) 0 (λ (q : 2 * j + v ≡ 2 * i + (2 - y)). n (omega arith))
          ∙ rw (get_or-set_other near i j (code_of y) none n) (en j v k w)

      same : j ≡ i → get_or (set after r (get_or after r 0 + one)) (2 * j + v) 0 ≡ get_or rows (2 * j + v) 0 + one * bit
          (clash (code_of (suc v)) (get_or (set near i (code_of y)) j none))
      same e =
          rw (e, get_or-set_same near i (code_of y) none (omega arith))
          (⊎_elim
          (λ (q : v ≡ 2 - y). rw (q, get_or-set_same after r (get_or after r 0 + one) 0 (omega arith), clash-other y least most, enter-fits) (omega arith))
          (λ (q : v ≡ 2 - y → ⊥).
          get_or-set_other after r (2 * i + v) (get_or after r 0 + one) 0 (λ (z : 2 * i + v ≡ 2 * i + (2 - y)). q (omega arith))
          ∙ en i v h w ∙ rw (un, clash-free (code_of (suc v)), clash-same v y least most w q))
          (same_or_not v (2 - y)))

pub enter-end : (rows near cut : List ℕ) (one : ℕ) (after : List ℕ) → 320 ≤ first_open (cube_of_words near) (cube_of_words cut)
    → Agrees (cube_of_words near) (cube_of_words cut)
    → Entered rows (cube_of_words near) one after → Entered rows (cube_of_words cut) one after
enter-end rows near cut one after h ag en j v k w =
    en j v k w
    ∙ ⊎_elim
    (λ (e : get_or (cube_of_words near) j none ≡ free).
    let o = before-first (cube_of_words near) (cube_of_words cut) j (words-length near ∙ sym (words-length cut)) (omega arith) in
    rw (e, closed-clash (code_of (suc v)) (get_or (cube_of_words cut) j none) (rw e at o)))
    (λ (e : get_or (cube_of_words near) j none ≡ get_or (cube_of_words cut) j none). rw e) (ag j k)

pub agree-turn : (near cut : Cube) (i : ℕ) (y : Code) (p : Cube) → i < length near → p ≡ set near i y → y ≡ get_or cut i none
    → Agrees near cut → Agrees p cut
agree-turn near cut i y p l ep ey ag j h =
    rw ep (⊎_elim (λ (e : j ≡ i). inr (rw (e, get_or-set_same near i y none l) ey))
    (λ (n : j ≡ i → ⊥). rw (get_or-set_other near i j y none n) (ag j h)) (same_or_not j i))

-- cuts entered one after another
pub record EnteredAll (cuts : List (List ℕ)) (m : ℕ) (rows : List ℕ) : Type 0 where
  pub long : length rows ≡ 640
  pub small : (k : ℕ) → k < 640 → get_or rows k 0 < 2 ^ m
  pub right : Against cuts m rows

pub entered-more : (cuts : List (List ℕ)) (m : ℕ) (rows after : List ℕ) (one : ℕ) → one ≡ 2 ^ m → length after ≡ 640
    → Entered rows (row_cube cuts m) one after
    → EnteredAll cuts m rows
    → EnteredAll cuts (m + 1) after
entered-more cuts m rows after one eo l en e = record { long = l; small = small; right = right }
  where
    more : (i v : ℕ) → i < 320 → v < 2 → DigitMore m (get_or rows (2 * i + v) 0) (clash (code_of (suc v)) (get_or (row_cube cuts m) i none))
    more i v h k = digit-more m (get_or rows (2 * i + v) 0) (clash (code_of (suc v)) (get_or (row_cube cuts m) i none)) (e.small (2 * i + v) (omega arith))

    small : (k : ℕ) → k < 640 → get_or after k 0 < 2 ^ (m + 1)
    small k h =
        let d : k ≡ 2 * (k / 2) + k % 2 = omega arith in
        let s : m + 1 ≡ suc m = omega arith in
        rw (d, s, en (k / 2) (k % 2) (omega arith) (omega arith), eo) (more (k / 2) (k % 2) (omega arith) (omega arith)).under

    right : Against cuts (m + 1) after
    right i v h k j l =
        rw (en i v h k, eo)
        (⊎_elim (λ (q : j ≡ m). rw q (more i v h k).top) (λ (q : j ≡ m → ⊥). (more i v h k).below j (omega arith) ∙ e.right i v h k j (omega arith))
        (same_or_not j m))

-- the cuts that a piece meets
pub met-more : (r : Row) (p : Cube) (m x y : ℕ) (b : Bool) → y ≡ x + 2 ^ m * bit b → b ≡ shares p (codes (cut_in r m)) → Met r p m x
    → Met r p (m + 1) y
met-more r p m x y b ey eb e =
    let d = digit-more m x b e.0 in
    let s' : m + 1 ≡ suc m = omega arith in
    rw ey (
      rw s' d.under,
      λ j h. ⊎_elim (λ (z : j ≡ m). rw z (d.top ∙ ap bit eb)) (λ (z : j ≡ m → ⊥). d.below j (omega arith) ∙ e.1 j (omega arith)) (same_or_not j m),
    )
