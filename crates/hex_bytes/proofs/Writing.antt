-- The loop that writes digits.
--   one_more    where the digits of i bytes are written, two stores write those of the next
use mathlib.Core.Path.{◌≡◌, refl, ap}
use mathlib.Core.List.{List, [], ◌∷◌}
use Prim.Native.Nat.{ℕ, zero, suc, ◌+◌, ◌*◌, ◌/◌, ◌%◌, ◌<◌}
use native.Mathlib.Nat.{not-suc-le-zero, le_of_suc-le-suc}
use native.Mathlib.Omega.{arith}
use lib.ListN.{length, get_or, take, set}
use Rattle.hex_bytes.specs.Digits.{hex_digit, with_digits}

pub one_more : (s old : List ℕ) (i : ℕ) → i < length s → 2 * i + 1 < length old
    → set (set (with_digits old (take i s)) (2 * i) (hex_digit (get_or s i 0 / 16))) (2 * i + 1) (hex_digit (get_or s i 0 % 16)) ≡ with_digits old (take (suc i) s)
one_more [] old i h k = absurd (not-suc-le-zero h)
one_more (b ∷ s) [] i h k = absurd (not-suc-le-zero k)
one_more (b ∷ s) (x ∷ []) i h k = absurd (omega arith)
one_more (b ∷ s) (x ∷ y ∷ old) zero h k = refl
one_more (b ∷ s) (x ∷ y ∷ old) (suc i) h k =
    let first : 2 * suc i ≡ suc (suc (2 * i)) = omega arith in
    let second : 2 * suc i + 1 ≡ suc (suc (2 * i + 1)) = omega arith in
    rw (second, first) (ap (λ (r : List ℕ). hex_digit (b / 16) ∷ hex_digit (b % 16) ∷ r) (one_more s old i (le_of_suc-le-suc h) (omega arith)))
