-- Loops over bytes that gather, by OR in one number, what is wrong at each place. The invariant: the number is 0 and what is left is right, exactly when the
-- whole is right.
--   xor-zero     the XOR of two numbers is 0 exactly when they are equal
--   gathered     the invariant holds after one byte more
--   ended        after the last byte the number tells of the whole
use mathlib.Core.Path.{◌≡◌, refl, sym, ap, ◌∙◌}
use mathlib.Core.Bool.{Bool, true, false, ◌&&◌, and_assoc, and-true}
use Prim.Native.Nat.{ℕ, zero, suc}
use native.Mathlib.Omega.{arith}
use lib.Bits.{bit_or, bit_xor, or_zero_l, or_add_and, and_le_l, and_le_r, xor_add_and, xor_self}
use lib.Dec.{eqb}
use borrow.Author.Tests.{eq-eqb, ne_eqb, eqb-true, eqb-false}

-- faults gathered by OR in one number: it is 0 exactly when each of them is
or-zero : (a b : ℕ) → eqb (bit_or a b) 0 ≡ eqb a 0 && eqb b 0
or-zero zero b = ap (λ (n : ℕ). eqb n 0) (or_zero_l b)
or-zero (suc a) b =
    ne_eqb (bit_or (suc a) b) 0 (λ e. omega (arith, or_add_and (suc a) b, and_le_r (suc a) b))
    ∙ ap (λ (t : Bool). t && eqb b 0) (sym (ne_eqb (suc a) 0 (λ e. omega arith)))

pub xor-zero : (x z : ℕ) → eqb (bit_xor x z) 0 ≡ eqb z x
xor-zero x z = go (eqb z x) refl
  where
    go : (t : Bool) → eqb z x ≡ t → eqb (bit_xor x z) 0 ≡ t
    go true e = rw (eqb-true z x e) (eq-eqb (bit_xor x x) 0 (xor_self x))
    go false e = ne_eqb (bit_xor x z) 0 (λ q. eqb-false z x e (omega (arith, xor_add_and x z, and_le_l x z, and_le_r x z)))

-- `here` is whether what is left is right, `left` whether it is after one byte more, and n what is wrong with that byte
pub gathered : (bad n : ℕ) (here left whole : Bool) → here ≡ eqb n 0 && left → eqb bad 0 && here ≡ whole → eqb (bit_or bad n) 0 && left ≡ whole
gathered bad n here left whole e inv =
    ap (λ (t : Bool). t && left) (or-zero bad n) ∙ and_assoc (eqb bad 0) (eqb n 0) left ∙ ap (λ (t : Bool). eqb bad 0 && t) (sym e) ∙ inv

pub ended : (was here whole : Bool) → here ≡ true → was && here ≡ whole → was ≡ whole
ended was here whole e inv = sym (and-true was) ∙ ap (λ (t : Bool). was && t) (sym e) ∙ inv
