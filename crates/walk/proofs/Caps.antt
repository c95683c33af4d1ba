-- Numbers with the cap of the ceiling.
--   capped-raised              the cap may be taken at each cut, and of a power of 2
--   capped-large               a number at the cap or above it
--   capped-power               a power of 2, which is shifted where it is below the cap
--   least-capped               the smaller of two numbers may be taken before the cap or after it
--   first-smaller, second-smaller   the same, where it is known which of the two it is
use Prim.Native.Nat.{ℕ, zero, suc, ◌+◌, ◌*◌, ◌%◌, ◌^◌, ◌≤◌, ◌<◌, min}
use native.Mathlib.Nat.{mod-eq_of_lt, mul-le-mul_left, zero-mul, one-mul, le_trans, min-eq_left, min-eq_right}
use native.Mathlib.Omega.{arith}
use mathlib.Core.Path.{◌≡◌, refl, sym, ap, ◌∙◌}
use mathlib.Core.Logic.{⊎_elim}
use Rattle.std.proofs.lemmas.Bool.{cases_lt}
use mathlib.Core.Bool.{Bool, true, false, cond}
use lib.Dec.{leb}
use lib.Pow.{pow_mono}
use Rattle.std.specs.Prelude.{Option, Some, None, SomeIff}
use Rattle.std.specs.Option.{unwrap_or}
use borrow.Author.Tests.{le-leb, leb-true}
use Rattle.model.specs.Ceiling.{most_pieces, capped}
use Rattle.model.proofs.Bound.{capped-at-most, capped-above, capped_same}

pub capped-raised : (f x : ℕ) → capped (1 + f * capped x) ≡ capped (1 + f * x)
capped-raised f x = go (leb most_pieces x) refl
  where
    large : (f : ℕ) → most_pieces ≤ x → capped (1 + f * most_pieces) ≡ capped (1 + f * x)
    large zero h = rw (zero-mul x)
    large (suc g) h =
        let a = mul-le-mul_left (suc g) h in
        let b : most_pieces ≤ 1 + suc g * most_pieces = omega arith in
        let c : most_pieces ≤ 1 + suc g * x = omega arith in
        rw (le-leb most_pieces (1 + suc g * most_pieces) b, le-leb most_pieces (1 + suc g * x) c)

    go : (b : Bool) → leb most_pieces x ≡ b → capped (1 + f * cond b most_pieces x) ≡ capped (1 + f * x)
    go true e = large f (leb-true most_pieces x e)
    go false e = refl

pub capped-large : (n : ℕ) → most_pieces ≤ n → most_pieces ≡ capped n
capped-large n h = rw (le-leb most_pieces n h)

capped-rises : (m n : ℕ) → m ≤ n → capped m ≤ capped n
capped-rises m n h = capped-above (capped m) n (capped-at-most m).0 (le_trans (capped-at-most m).1 h)

-- 2 to the s, shifted within 32 bits
pub capped-power : (s : ℕ) (r : Option ℕ) → SomeIff r (s < 32) ((1 * 2 ^ s) % 2 ^ 32) → unwrap_or r most_pieces ≡ capped (2 ^ s)
capped-power s None h = let l : 32 ≤ s = omega arith in capped-large (2 ^ s) (omega (arith, pow_mono l))
capped-power s (Some x) (h, e) =
    let k : s ≤ 31 = omega arith in
    let l : 2 ^ s ≤ 2147483648 = omega (arith, pow_mono k) in
    let f : 1 * 2 ^ s % 2 ^ 32 ≡ 1 * 2 ^ s = mod-eq_of_lt (omega arith) in
    e ∙ f ∙ one-mul (2 ^ s) ∙ sym (capped_same (2 ^ s) (omega arith))

-- the least of two numbers
pub least-capped : (m n : ℕ) {a b : ℕ} → a ≡ capped m → b ≡ capped n → min b a ≡ capped (min m n)
least-capped m n {a} {b} ea eb = ⊎_elim first second (cases_lt m n)
  where
    first : m < n → min b a ≡ capped (min m n)
    first l =
        let k : a ≤ b = omega (arith, capped-rises m n (omega arith)) in
        min-eq_right k ∙ ea ∙ ap capped (sym (min-eq_left (omega arith)))

    second : n ≤ m → min b a ≡ capped (min m n)
    second l =
        let k : b ≤ a = omega (arith, capped-rises n m l) in
        min-eq_left k ∙ eb ∙ ap capped (sym (min-eq_right l))

module _ (m n : ℕ) {a b : ℕ} (ea : a ≡ capped m) (eb : b ≡ capped n) where
  pub second-smaller : b ≤ a → b ≡ capped (min m n)
  second-smaller h = sym (min-eq_left h) ∙ least-capped m n ea eb

  pub first-smaller : a ≤ b → a ≡ capped (min m n)
  first-smaller h = sym (min-eq_right h) ∙ least-capped m n ea eb
