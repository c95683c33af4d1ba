-- The search for the first position that opens, in values of several places.
--   bytes-passed, words-passed   what it needs, of bytes and of words
--   marks-last               a value of n places opens at one of them
--   open-here, open-passed, open-ended   it ends here, goes on, or finds none
use Prim.Native.Nat.{ℕ, suc, ◌+◌, ◌-◌, ◌*◌, ◌/◌, ◌%◌, ◌^◌, ◌≤◌, ◌<◌}
use native.Mathlib.Nat.{div-eq_of_lt, mod-eq_of_lt, le-div_iff_mul-le, div-lt_iff_lt-mul}
use Rattle.std.proofs.Math.Nat.{mul-le-mul_left, mul-add}
use native.Mathlib.Omega.{arith}
use mathlib.Core.Path.{◌≡◌, refl, sym, ap, ◌∙◌}
use mathlib.Core.Bool.{Bool, true, false, true≢false}
use mathlib.Core.Logic.{⊎_elim}
use mathlib.Core.List.{List}
use lib.ListN.{length, get_or}
use lib.Pow.{pow_pos, pow_mono, pow-add}
use Rattle.model.specs.Cube.{none, Cube}
use Rattle.model.specs.Walk.{opens}
use Rattle.format.specs.Bytes.{code_of, codes}
use Rattle.format.proofs.Coding.{length-codes}
use Rattle.visits.specs.Opening.{bit, first_open, FirstOpen}
use Rattle.std.specs.Prelude.{Some, None}
use Rattle.visits.specs.Words.{place_at, cube_of_words, Openings}
use Rattle.visits.specs.Places.{CodesOf, Passed, words-length}
use Rattle.visits.proofs.Openings.{first-opens, first-found, first-left}
use Rattle.visits.proofs.WordCubes.{first-is, before-first, bit-zero}
use Rattle.visits.proofs.Digits.{below_or}

pub bytes-passed : (p c : List ℕ) (b : ℕ) → length p ≡ length c → length p ≤ 80 → 4 * b ≤ first_open (codes p) (codes c) → Passed 4 codes p c b
bytes-passed p c b e h k = record { even = e; piece = length-codes p; cut = length-codes c; counted = omega (arith, length-codes p); passed = k }

pub words-passed : (p c : List ℕ) (b : ℕ) → length p ≡ 10 → length c ≡ 10 → 32 * b ≤ first_open (cube_of_words p) (cube_of_words c)
    → Passed 32 cube_of_words p c b
words-passed p c b d e k =
    record {
      even = omega arith;
      piece = omega (arith, words-length p);
      cut = omega (arith, words-length c);
      counted = omega (arith, words-length p);
      passed = k;
    }

bit-one : (b : Bool) → (bit b ≡ 0 → ⊥) → b ≡ true
bit-one true e = refl
bit-one false e = absurd (e refl)

abbrev opens_at : ℕ → ℕ → ℕ → Bool
opens_at x y k = opens (code_of (place_at x k)) (code_of (place_at y k))

-- the marks t of the words x and y; top is the highest digit of t
module _ (x y t : ℕ) (m : Openings x y t) where
  marks-none : t ≡ 0 → (k : ℕ) → k < 32 → opens_at x y k ≡ false
  marks-none e k h = bit-zero (opens_at x y k) (sym (m k h) ∙ rw (e, div-eq_of_lt (pow_pos (62 - 2 * k))))

  module _ (top : ℕ) (h : top < 64) (low : 2 ^ top ≤ t) (high : t < 2 ^ suc top) where
    marks-first : opens_at x y (31 - top / 2) ≡ true
    marks-first =
        let s = 62 - 2 * (31 - top / 2) in
        let under : s ≤ top = omega arith in
        let above : suc top ≤ 2 + s = omega arith in
        let a : 1 ≤ t / 2 ^ s = (le-div_iff_mul-le (pow_pos s)).1 (omega (arith, pow_mono under)) in
        let b : t / 2 ^ s < 4 = (div-lt_iff_lt-mul (pow_pos s)).1 (omega (arith, pow_mono above, pow-add 2 2 s)) in
        bit-one (opens_at x y (31 - top / 2)) (λ e. let z : t / 2 ^ s % 4 ≡ 0 = m (31 - top / 2) (omega arith) ∙ e in omega (arith, mod-eq_of_lt b))

    marks-before : (j : ℕ) → j < 31 - top / 2 → opens_at x y j ≡ false
    marks-before j l =
        let far : suc top ≤ 62 - 2 * j = omega arith in
        let b : t < 2 ^ (62 - 2 * j) = omega (arith, pow_mono far) in
        bit-zero (opens_at x y j) (sym (m j (omega arith)) ∙ rw (div-eq_of_lt b))

    -- a word of n places has none before the last n
    pub marks-last : (n : ℕ) → x < 2 ^ (2 * n) → n ≤ 32 → top / 2 < n
    marks-last n f few =
        ⊎_elim (λ (l : top / 2 < n). l)
        (λ (l : n ≤ top / 2).
        let far : 2 * n ≤ 62 - 2 * (31 - top / 2) = omega arith in
        let b : x < 2 ^ (62 - 2 * (31 - top / 2)) = omega (arith, pow_mono far) in
        let z : place_at x (31 - top / 2) ≡ 0 = rw (div-eq_of_lt b) in
        absurd (true≢false (sym marks-first ∙ rw z)))
        (below_or (top / 2) n)

-- the search at b, in values p and c of n places, where it has found none before; x and y are the values there, u and w their words
module _ {A : Type 0} (n : ℕ) (few : n ≤ 32) (word : A → ℕ) (cube : List A → Cube) (coded : CodesOf n word cube) (p c : List A) (b : ℕ) (f : Passed n cube p c b) (h : b < length p)
    (x y : A) (ex : x ≡ get_or p b x) (ey : y ≡ get_or c b y) (u w t : ℕ) (eu : u ≡ word x) (ew : w ≡ word y) (m : Openings u w t) where
  even : length (cube p) ≡ length (cube c)
  even = f.piece ∙ ap (λ (l : ℕ). n * l) f.even ∙ sym f.cut

  inside : n * b + n ≤ length (cube p)
  inside = let l : b + 1 ≤ length p = omega arith in omega (arith, mul-le-mul_left n l, mul-add n b 1, f.piece)

  in-value : (k : ℕ) → k < n → opens (get_or (cube p) (n * b + k) none) (get_or (cube c) (n * b + k) none) ≡ opens_at u w (32 - n + k)
  in-value k l = rw (coded p x b k f.piece h l, coded c y b k f.cut (omega (arith, f.even)) l, ← ex, ← ey, ← eu, ← ew)

  pub open-here : (top : ℕ) → top < 64 → 2 ^ top ≤ t → t < 2 ^ suc top → u < 2 ^ (2 * n)
      → FirstOpen (cube p) (cube c) (Some (n * b + (n - 1 - top / 2)))
  open-here top l low high fits =
      let s = marks-last u w t m top l low high n fits few in
      let k = n - 1 - top / 2 in
      let r : 32 - n + k ≡ 31 - top / 2 = omega arith in
      first-found (cube p) (cube c) (n * b + k)
      (first-is (cube p) (cube c) (n * b + k) even (omega (arith, inside)) (in-value k (omega arith) ∙ rw r (marks-first u w t m top l low high))
      (λ j g. ⊎_elim (λ (a : j < n * b). before-first (cube p) (cube c) j even (omega (arith, f.passed)))
      (λ (a : n * b ≤ j). let e : j ≡ n * b + (j - n * b) = omega arith in rw e
      (in-value (j - n * b) (omega arith) ∙ marks-before u w t m top l low high (32 - n + (j - n * b)) (omega arith)))
      (below_or j (n * b))))
      (omega (arith, inside))

  pub open-passed : t ≡ 0 → Passed n cube p c (b + 1)
  open-passed z =
      let i = first_open (cube p) (cube c) in
      let later : n * b + n ≤ i =
      ⊎_elim
      (λ (g : i < n * b + n).
      let e : i ≡ n * b + (i - n * b) = omega (arith, f.passed) in
      let o = first-opens (cube p) (cube c) even (omega (arith, inside)) in
      absurd (true≢false (sym o ∙ (rw (← e) at (in-value (i - n * b) (omega (arith, f.passed)))) ∙ marks-none u w t m z (32 - n + (i - n * b))
      (omega (arith, f.passed)))))
      (λ (g : n * b + n ≤ i). g) (below_or i (n * b + n)) in
      record { even = f.even; piece = f.piece; cut = f.cut; counted = f.counted; passed = omega (arith, mul-add n b 1) }

pub open-ended : {A : Type 0} (n : ℕ) (cube : List A → Cube) (p c : List A) (b : ℕ) → Passed n cube p c b → length p ≤ b
    → FirstOpen (cube p) (cube c) None
open-ended n cube p c b f h = first-left (cube p) (cube c) (omega (arith, mul-le-mul_left n h, f.piece, f.passed))
