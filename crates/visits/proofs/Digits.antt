-- Digits of numbers.
--   same_or_not, below_or   two numbers are the same or not; one is below the other or not
--   or-none, xor-none       what `|` and `^` leave 0
--   digit_and, digit-xor    the digits of base 2 of `&` and `^`
--   place-and, place-or     the digits of base 4 of `&` and `|`
--   same_low                numbers with the same n low digits have the same w digits from j on, where those lie below
--   digit-below, digit-top  the digits below 2 ^ n of a number, and the digit 2 ^ n of one that has it at the top
--   threes-at               a word of all digits has 3 at each place
--   openings-right          the places where a cut opens a piece, by `&`, `^` and `>>`
--   given-right             a digit 3 of base 4 made smaller
--   taken-fits, taken-there    what is taken off for that is a word, and no more than there is
use Prim.Native.Nat.{ℕ, zero, suc, ◌+◌, ◌-◌, ◌*◌, ◌/◌, ◌%◌, ◌^◌, ◌≤◌, ◌<◌}
use native.Mathlib.Nat.{mod-lt, add-mul, mul-add-mod_self_right, mul-le-mul_right}
use native.Mathlib.Omega.{arith}
use mathlib.Core.Path.{◌≡◌, refl, sym, ap, ◌∙◌}
use mathlib.Core.Bool.{Bool, true, false, ◌&&◌}
use mathlib.Core.Logic.{◌⊎◌, inl, inr, ⊎_elim}
use lib.Dec.{T, eqb, eqb→eq, lit<}
use lib.Pow.{pow_pos, split, high, low, shr-shr, shl_exact, field, mod-mod-pow}
use lib.Bits.{bit_and, bit_or, bit_xor, and_shr, and_mod, or_shr, or_mod, xor_shr, xor_mod, and_mask, and_le_l, and_le_r, or_add_and, xor_add_and}
use Rattle.model.specs.Walk.{opens}
use Rattle.format.specs.Bytes.{code_of}
use Rattle.visits.specs.Opening.{bit}
use Rattle.visits.specs.Words.{place_at, Openings, GivenWord}
use Rattle.visits.specs.Alive.{digit}

pub same_or_not : (m n : ℕ) → (m ≡ n) ⊎ (m ≡ n → ⊥)
same_or_not zero zero = inl refl
same_or_not zero (suc n) = inr (λ e. omega arith)
same_or_not (suc m) zero = inr (λ e. omega arith)
same_or_not (suc m) (suc n) = go (same_or_not m n)
  where
    go : (m ≡ n) ⊎ (m ≡ n → ⊥) → (suc m ≡ suc n) ⊎ (suc m ≡ suc n → ⊥)
    go (inl e) = inl (ap suc e)
    go (inr f) = inr (λ e. f (omega arith))

pub below_or : (m n : ℕ) → (m < n) ⊎ (n ≤ m)
below_or m zero = inr (omega arith)
below_or zero (suc n) = inl (omega arith)
below_or (suc m) (suc n) = ⊎_elim (λ (h : m < n). inl (omega arith)) (λ (h : n ≤ m). inr (omega arith)) (below_or m n)

pub or-none : (x y : ℕ) → bit_or x y ≡ 0 → (x ≡ 0) × (y ≡ 0)
or-none x y e = (omega (arith, or_add_and x y, and_le_l x y, and_le_r x y), omega (arith, or_add_and x y, and_le_l x y, and_le_r x y))

pub xor-none : (x y : ℕ) → bit_xor x y ≡ 0 → x ≡ y
xor-none x y e = omega (arith, xor_add_and x y, and_le_l x y, and_le_r x y)

pub digit_and : (j x y : ℕ) → digit j (bit_and x y) ≡ bit_and (digit j x) (digit j y)
digit_and j x y = rw (and_shr x y j) (and_mod (x / 2 ^ j) (y / 2 ^ j) 1)

pub digit-xor : (j x y : ℕ) → digit j (bit_xor x y) ≡ bit_xor (digit j x) (digit j y)
digit-xor j x y = rw (xor_shr x y j) (xor_mod (x / 2 ^ j) (y / 2 ^ j) 1)

pub place-and : (k x y : ℕ) → place_at (bit_and x y) k ≡ bit_and (place_at x k) (place_at y k)
place-and k x y = rw (and_shr x y (62 - 2 * k)) (and_mod (x / 2 ^ (62 - 2 * k)) (y / 2 ^ (62 - 2 * k)) 2)

pub place-or : (k x y : ℕ) → place_at (bit_or x y) k ≡ bit_or (place_at x k) (place_at y k)
place-or k x y = rw (or_shr x y (62 - 2 * k)) (or_mod (x / 2 ^ (62 - 2 * k)) (y / 2 ^ (62 - 2 * k)) 2)

-- w digits from j on
low_field : (d w j x : ℕ) → x / 2 ^ j % 2 ^ w ≡ x % 2 ^ (d + w + j) / 2 ^ j % 2 ^ w
low_field d w j x = sym (mod-mod-pow (x / 2 ^ j) d w) ∙ rw (← field x (d + w) j)

pub same_low : (x y n w j : ℕ) → x % 2 ^ n ≡ y % 2 ^ n → j + w ≤ n → x / 2 ^ j % 2 ^ w ≡ y / 2 ^ j % 2 ^ w
same_low x y n w j e h =
    let d : n - (j + w) + w + j ≡ n = omega arith in
    low_field (n - (j + w)) w j x ∙ rw (d, e, ← d) (sym (low_field (n - (j + w)) w j y))

pub digit-below : (j n r : ℕ) → j < n → digit j (2 ^ n + r) ≡ digit j r
digit-below j n r h =
    let e : 2 ^ n + r ≡ 1 * 2 ^ n + r = omega arith in
    same_low (2 ^ n + r) r n 1 j (rw e (mul-add-mod_self_right 1 (2 ^ n) r)) (omega arith)

pub digit-top : (n r : ℕ) → r < 2 ^ n → digit n (2 ^ n + r) ≡ 1
digit-top n r h = let e : 2 ^ n + r ≡ 1 * 2 ^ n + r = omega arith in rw (e, high 1 n h)

-- the places where a cut opens a piece
last_or : (k n : ℕ) → k < suc n → (k ≡ n) ⊎ (k < n)
last_or k n h = ⊎_elim inl (λ (f : k ≡ n → ⊥). inr (omega arith)) (same_or_not k n)

abbrev every : ℕ → (ℕ → Bool) → Bool
every zero f = true
every (suc n) f = f n && every n f

split-and : (a b : Bool) → T (a && b) → T a × T b
split-and true b t = (tt, t)
split-and false b t = absurd t

each : (n : ℕ) (f : ℕ → Bool) → T (every n f) → (k : ℕ) → k < n → T (f k)
each zero f t k h = absurd (omega arith)
each (suc n) f t k h =
    ⊎_elim (λ (e : k ≡ n). rw e (split-and (f n) (every n f) t).0) (λ l. each n f (split-and (f n) (every n f) t).1 k l) (last_or k n h)

ones-at : (k : ℕ) → k < 32 → place_at 0x5555555555555555 k ≡ 1
ones-at k h = eqb→eq (place_at 0x5555555555555555 k) 1 (each 32 (λ j. eqb (place_at 0x5555555555555555 j) 1) tt k h)

pub threes-at : (k : ℕ) → k < 32 → place_at 18446744073709551615 k ≡ 3
threes-at k h = eqb→eq (place_at 18446744073709551615 k) 3 (each 32 (λ j. eqb (place_at 18446744073709551615 j) 3) tt k h)

half-shr : (x k : ℕ) → x / 2 / 2 ^ k ≡ x / 2 ^ k / 2
half-shr x k = shr-shr x 1 k ∙ rw (let e : 1 + k ≡ k + 1 = omega arith in e) (sym (shr-shr x k 1))

-- two bits of the piece's code, the lower one first, and two of the cut's
bits-open : (a b c d : ℕ) → a < 2 → b < 2 → c < 2 → d < 2
    → bit_and (bit_and a b) (bit_xor c d) ≡ bit (opens (code_of (2 * b + a)) (code_of (2 * d + c)))
bits-open zero zero zero zero h i j k = refl
bits-open zero zero zero (suc zero) h i j k = refl
bits-open zero zero (suc zero) zero h i j k = refl
bits-open zero zero (suc zero) (suc zero) h i j k = refl
bits-open zero (suc zero) zero zero h i j k = refl
bits-open zero (suc zero) zero (suc zero) h i j k = refl
bits-open zero (suc zero) (suc zero) zero h i j k = refl
bits-open zero (suc zero) (suc zero) (suc zero) h i j k = refl
bits-open (suc zero) zero zero zero h i j k = refl
bits-open (suc zero) zero zero (suc zero) h i j k = refl
bits-open (suc zero) zero (suc zero) zero h i j k = refl
bits-open (suc zero) zero (suc zero) (suc zero) h i j k = refl
bits-open (suc zero) (suc zero) zero zero h i j k = refl
bits-open (suc zero) (suc zero) zero (suc zero) h i j k = refl
bits-open (suc zero) (suc zero) (suc zero) zero h i j k = refl
bits-open (suc zero) (suc zero) (suc zero) (suc zero) h i j k = refl
bits-open (suc (suc a)) b c d h i j k = absurd (omega arith)
bits-open zero (suc (suc b)) c d h i j k = absurd (omega arith)
bits-open (suc zero) (suc (suc b)) c d h i j k = absurd (omega arith)
bits-open zero zero (suc (suc c)) d h i j k = absurd (omega arith)
bits-open zero (suc zero) (suc (suc c)) d h i j k = absurd (omega arith)
bits-open (suc zero) zero (suc (suc c)) d h i j k = absurd (omega arith)
bits-open (suc zero) (suc zero) (suc (suc c)) d h i j k = absurd (omega arith)
bits-open zero zero zero (suc (suc d)) h i j k = absurd (omega arith)
bits-open zero zero (suc zero) (suc (suc d)) h i j k = absurd (omega arith)
bits-open zero (suc zero) zero (suc (suc d)) h i j k = absurd (omega arith)
bits-open zero (suc zero) (suc zero) (suc (suc d)) h i j k = absurd (omega arith)
bits-open (suc zero) zero zero (suc (suc d)) h i j k = absurd (omega arith)
bits-open (suc zero) zero (suc zero) (suc (suc d)) h i j k = absurd (omega arith)
bits-open (suc zero) (suc zero) zero (suc (suc d)) h i j k = absurd (omega arith)
bits-open (suc zero) (suc zero) (suc zero) (suc (suc d)) h i j k = absurd (omega arith)

pub openings-right : (x y : ℕ) → Openings x y (bit_and (bit_and (bit_and x (x / 2)) (bit_xor y (y / 2))) 0x5555555555555555)
openings-right x y k h =
    let s = 62 - 2 * k in
    let X = x / 2 ^ s in
    let Y = y / 2 ^ s in
    let m = bit_and (bit_and x (x / 2)) (bit_xor y (y / 2)) in
    let low : m / 2 ^ s ≡ bit_and (bit_and X (X / 2)) (bit_xor Y (Y / 2)) =
    rw (and_shr (bit_and x (x / 2)) (bit_xor y (y / 2)) s, and_shr x (x / 2) s, xor_shr y (y / 2) s, half-shr x s, half-shr y s) in
    let z = bit_and (bit_and X (X / 2)) (bit_xor Y (Y / 2)) in
    let one : z % 2 ≡ bit_and (bit_and (X % 2) (X / 2 % 2)) (bit_xor (Y % 2) (Y / 2 % 2)) =
    rw (and_mod (bit_and X (X / 2)) (bit_xor Y (Y / 2)) 1, and_mod X (X / 2) 1, xor_mod Y (Y / 2) 1) in
    let ex : X % 4 ≡ 2 * (X / 2 % 2) + X % 2 = omega arith in
    let ey : Y % 4 ≡ 2 * (Y / 2 % 2) + Y % 2 = omega arith in
    let quarter : z % 4 % 2 ≡ z % 2 = omega arith in
    place-and k m 0x5555555555555555
    ∙ rw (ones-at k h, low, and_mask (z % 4) 1, quarter, one, ex, ey)
    (bits-open (X % 2) (X / 2 % 2) (Y % 2) (Y / 2 % 2) (mod-lt X (lit< tt)) (mod-lt (X / 2) (lit< tt)) (mod-lt Y (lit< tt)) (mod-lt (Y / 2) (lit< tt)))

pub given-right : (x k v : ℕ) → k < 32 → v ≤ 3 → place_at x k ≡ 3 → GivenWord x k v (x - (3 - v) * 2 ^ (62 - 2 * k))
given-right x k v h l e = (at, elsewhere)
  where
    s : ℕ
    s = 62 - 2 * k

    r : ℕ
    r = x - (3 - v) * 2 ^ s

    cut : r ≡ (x / 2 ^ s - (3 - v)) * 2 ^ s + x % 2 ^ s
    cut =
        let d = 3 - v in
        let q = x / 2 ^ s in
        let t : q ≡ q - d + d = omega arith in
        let p : q * 2 ^ s ≡ (q - d) * 2 ^ s + d * 2 ^ s = ap (λ (n : ℕ). n * 2 ^ s) t ∙ add-mul (q - d) d (2 ^ s) in
        omega (arith, p, split x s)

    above : r / 2 ^ s ≡ x / 2 ^ s - (3 - v)
    above = rw cut (high (x / 2 ^ s - (3 - v)) s (mod-lt x (pow_pos s)))

    below : r % 2 ^ s ≡ x % 2 ^ s
    below = rw cut (low (x / 2 ^ s - (3 - v)) s (mod-lt x (pow_pos s)))

    at : place_at r k ≡ v
    at = rw above (omega arith)

    quarter : r / 2 ^ s / 4 ≡ x / 2 ^ s / 4
    quarter = rw above (omega arith)

    later : (t : ℕ) → r / 2 ^ (s + 2 + t) ≡ x / 2 ^ (s + 2 + t)
    later t = sym (shr-shr r (s + 2) t) ∙ ap (λ (n : ℕ). n / 2 ^ t) (sym (shr-shr r s 2) ∙ quarter ∙ shr-shr x s 2) ∙ shr-shr x (s + 2) t

    -- the places before k, of more weight, and those after it
    elsewhere : (j : ℕ) → j < 32 → (j ≡ k → ⊥) → place_at r j ≡ place_at x j
    elsewhere j i n =
        ⊎_elim (λ (z : j < k). let d : 62 - 2 * j ≡ s + 2 + (2 * (k - j) - 2) = omega arith in rw d (ap (λ (m : ℕ). m % 4) (later (2 * (k - j) - 2))))
        (λ (z : k ≤ j). same_low r x s 2 (62 - 2 * j) below (omega arith)) (below_or j k)

pub taken-fits : (k v : ℕ) → (3 - v) * 2 ^ (62 - 2 * k) % 2 ^ 64 ≡ (3 - v) * 2 ^ (62 - 2 * k)
taken-fits k v = shl_exact 2 (62 - 2 * k) 64 (omega arith) (omega arith)

pub taken-there : (x k v : ℕ) → place_at x k ≡ 3 → (3 - v) * 2 ^ (62 - 2 * k) ≤ x
taken-there x k v e =
    let s = 62 - 2 * k in
    let q : 3 - v ≤ x / 2 ^ s = omega arith in
    omega (arith, mul-le-mul_right (2 ^ s) q, split x s)
