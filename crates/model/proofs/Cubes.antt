-- The set meaning of meeting, sharing a header and lying within.
--   in_meet        a header is in the meet exactly when it is in both
--   in-shown       a cube without `none` holds the header shown
--   in-solid       a cube that holds a header has no `none`
--   shares-shown, apart_none   cubes share a header exactly when their meet has no `none`, and then the shown header is one
--   within_in, within-out      a cube without `none` lies in another exactly when every header of it does
--   same-is, same_self         `same` is equality
--   meet-again                 meeting twice is meeting once
--   length_meet, length-shown  the lengths of a meet and of the header shown
use Prim.Native.Nat.{suc}
use native.Mathlib.Omega.{arith}
use lib.ListN.{length}
use mathlib.Core.Path.{◌≡◌, refl, sym, ap, ap₂, ◌∙◌}
use mathlib.Core.List.{[], ◌∷◌}
use mathlib.Core.Bool.{Bool, true, false, ◌&&◌, and-false, true≢false}
use Rattle.model.specs.Cube.{Header, Code, none, v0, v1, free, Cube, admits, holds, meet_code, nones, meet, coded, solid, shares, same_code, same, within, shown_bit, shown}
use Rattle.model.proofs.Bools.{and_left, and_right, and_both, and-swap}

-- one position
admits-meet : (x y : Code) (b : Bool) → admits (meet_code x y) b ≡ admits x b && admits y b
admits-meet none y b = refl
admits-meet v0 none true = refl
admits-meet v0 none false = refl
admits-meet v0 v0 true = refl
admits-meet v0 v0 false = refl
admits-meet v0 v1 true = refl
admits-meet v0 v1 false = refl
admits-meet v0 free true = refl
admits-meet v0 free false = refl
admits-meet v1 none true = refl
admits-meet v1 none false = refl
admits-meet v1 v0 true = refl
admits-meet v1 v0 false = refl
admits-meet v1 v1 true = refl
admits-meet v1 v1 false = refl
admits-meet v1 free true = refl
admits-meet v1 free false = refl
admits-meet free y b = refl

pub in_meet : (a b : Cube) (h : Header) → holds (meet a b) h ≡ holds a h && holds b h
in_meet [] [] [] = refl
in_meet [] [] (x ∷ h) = refl
in_meet [] (y ∷ b) [] = refl
in_meet [] (y ∷ b) (x ∷ h) = refl
in_meet (x ∷ a) [] [] = refl
in_meet (x ∷ a) [] (i ∷ h) = sym (and-false (admits x i && holds a h))
in_meet (x ∷ a) (y ∷ b) [] = refl
in_meet (x ∷ a) (y ∷ b) (i ∷ h) =
    ap₂ (λ (p q : Bool). p && q) (admits-meet x y i) (in_meet a b h) ∙ and-swap (admits x i) (admits y i) (holds a h) (holds b h)

-- a cube has a header exactly when it has no `none`
admits-shown : (x : Code) → coded x ≡ true → admits x (shown_bit x) ≡ true
admits-shown none e = e
admits-shown v0 e = refl
admits-shown v1 e = refl
admits-shown free e = refl

pub in-shown : (c : Cube) → solid c ≡ true → holds c (shown c) ≡ true
in-shown [] e = refl
in-shown (x ∷ c) e =
    and_both (admits x (shown_bit x)) (holds c (shown c)) (admits-shown x (and_left (coded x) (solid c) e)) (in-shown c (and_right (coded x) (solid c) e))

in-coded : (x : Code) (b : Bool) → admits x b ≡ true → coded x ≡ true
in-coded none b e = e
in-coded v0 b e = refl
in-coded v1 b e = refl
in-coded free b e = refl

pub in-solid : (c : Cube) (h : Header) → holds c h ≡ true → solid c ≡ true
in-solid [] h e = refl
in-solid (x ∷ c) [] e = cc
in-solid (x ∷ c) (b ∷ h) e =
    and_both (coded x) (solid c) (in-coded x b (and_left (admits x b) (holds c h) e)) (in-solid c h (and_right (admits x b) (holds c h) e))

-- what a test that is not true is
not-true : (t : Bool) → (t ≡ true → ⊥) → t ≡ false
not-true true f = absurd (f refl)
not-true false f = refl

pub shares-shown : (a b : Cube) → shares a b ≡ true → holds a (shown (meet a b)) && holds b (shown (meet a b)) ≡ true
shares-shown a b e = sym (in_meet a b (shown (meet a b))) ∙ in-shown (meet a b) e

pub apart_none : (a b : Cube) (h : Header) → shares a b ≡ false → holds a h && holds b h ≡ false
apart_none a b h e = not-true (holds a h && holds b h) (λ t. true≢false (sym (in-solid (meet a b) h (in_meet a b h ∙ t)) ∙ e))

-- equality
same_code-is : (x y : Code) → same_code x y ≡ true → x ≡ y
same_code-is none none e = refl
same_code-is none v0 e = cc
same_code-is none v1 e = cc
same_code-is none free e = cc
same_code-is v0 none e = cc
same_code-is v0 v0 e = refl
same_code-is v0 v1 e = cc
same_code-is v0 free e = cc
same_code-is v1 none e = cc
same_code-is v1 v0 e = cc
same_code-is v1 v1 e = refl
same_code-is v1 free e = cc
same_code-is free none e = cc
same_code-is free v0 e = cc
same_code-is free v1 e = cc
same_code-is free free e = refl

pub same-is : (a b : Cube) → same a b ≡ true → a ≡ b
same-is [] [] e = refl
same-is [] (y ∷ b) e = cc
same-is (x ∷ a) [] e = cc
same-is (x ∷ a) (y ∷ b) e =
    ap₂ (λ (z : Code) (c : Cube). z ∷ c) (same_code-is x y (and_left (same_code x y) (same a b) e)) (same-is a b (and_right (same_code x y) (same a b) e))

code-self : (x : Code) → same_code x x ≡ true
code-self none = refl
code-self v0 = refl
code-self v1 = refl
code-self free = refl

pub same_self : (a : Cube) → same a a ≡ true
same_self [] = refl
same_self (x ∷ a) = and_both (same_code x x) (same a a) (code-self x) (same_self a)

-- meeting twice
code-again : (x y : Code) → meet_code x (meet_code x y) ≡ meet_code x y
code-again none y = refl
code-again v0 none = refl
code-again v0 v0 = refl
code-again v0 v1 = refl
code-again v0 free = refl
code-again v1 none = refl
code-again v1 v0 = refl
code-again v1 v1 = refl
code-again v1 free = refl
code-again free y = refl

nones-again : (c : Cube) → nones (nones c) ≡ nones c
nones-again [] = refl
nones-again (x ∷ c) = ap (λ (d : Cube). none ∷ d) (nones-again c)

meet-nones : (a : Cube) → meet a (nones a) ≡ nones a
meet-nones [] = refl
meet-nones (none ∷ a) = ap (λ (d : Cube). none ∷ d) (meet-nones a)
meet-nones (v0 ∷ a) = ap (λ (d : Cube). none ∷ d) (meet-nones a)
meet-nones (v1 ∷ a) = ap (λ (d : Cube). none ∷ d) (meet-nones a)
meet-nones (free ∷ a) = ap (λ (d : Cube). none ∷ d) (meet-nones a)

pub meet-again : (a b : Cube) → meet a (meet a b) ≡ meet a b
meet-again [] b = nones-again b
meet-again (x ∷ a) [] = meet-nones (x ∷ a)
meet-again (x ∷ a) (y ∷ b) = ap₂ (λ (z : Code) (c : Cube). z ∷ c) (code-again x y) (meet-again a b)

-- lying within
pub within_in : (a b : Cube) (h : Header) → within a b ≡ true → holds a h ≡ true → holds b h ≡ true
within_in a b h e i =
    and_right (holds a h) (holds b h) (sym (in_meet a b h) ∙ ap (λ (c : Cube). holds c h) (same-is (meet a b) a e) ∙ i)

-- a bit that x admits and y does not
code_out : (x y : Code) → coded x ≡ true → same_code (meet_code x y) x ≡ false → (b : Bool) × (admits x b ≡ true) × (admits y b ≡ false)
code_out none y c e = absurd (true≢false (sym c))
code_out v0 none c e = (false, refl, refl)
code_out v0 v0 c e = absurd (true≢false e)
code_out v0 v1 c e = (false, refl, refl)
code_out v0 free c e = absurd (true≢false e)
code_out v1 none c e = (true, refl, refl)
code_out v1 v0 c e = (true, refl, refl)
code_out v1 v1 c e = absurd (true≢false e)
code_out v1 free c e = absurd (true≢false e)
code_out free none c e = (true, refl, refl)
code_out free v0 c e = (true, refl, refl)
code_out free v1 c e = (false, refl, refl)
code_out free free c e = absurd (true≢false e)

pub within-out : (a b : Cube) → solid a ≡ true → within a b ≡ false → (h : Header) × (holds a h ≡ true) × (holds b h ≡ false)
within-out [] [] s e = absurd (true≢false e)
within-out [] (y ∷ b) s e = ([], refl, refl)
within-out (x ∷ a) [] s e = (shown (x ∷ a), in-shown (x ∷ a) s, refl)
within-out (x ∷ a) (y ∷ b) s e =
    go (λ q. within-out a b (and_right (coded x) (solid a) s) q) (same_code (meet_code x y) x) refl e
  where
    first : coded x ≡ true
    first = and_left (coded x) (solid a) s

    go : (within a b ≡ false → (h : Header) × (holds a h ≡ true) × (holds b h ≡ false)) → (g : Bool) → same_code (meet_code x y) x ≡ g → g && within a b ≡ false
        → (h : Header) × (holds (x ∷ a) h ≡ true) × (holds (y ∷ b) h ≡ false)
    go ih true p q =
        let r = ih q in (
          shown_bit x ∷ r.0,
          and_both (admits x (shown_bit x)) (holds a r.0) (admits-shown x first) r.1,
          ap (λ (z : Bool). admits y (shown_bit x) && z) r.2 ∙ and-false (admits y (shown_bit x)),
        )
    go ih false p q =
        let t = code_out x y first p in (
          t.0 ∷ shown a,
          and_both (admits x t.0) (holds a (shown a)) t.1 (in-shown a (and_right (coded x) (solid a) s)),
          ap (λ (z : Bool). z && holds b (shown a)) t.2,
        )

-- lengths
pub length_meet : (a b : Cube) → length a ≡ length b → length (meet a b) ≡ length a
length_meet [] [] e = refl
length_meet [] (y ∷ b) e = omega arith
length_meet (x ∷ a) [] e = omega arith
length_meet (x ∷ a) (y ∷ b) e = omega (arith, length_meet a b (omega arith))

pub length-shown : (c : Cube) → length (shown c) ≡ length c
length-shown [] = refl
length-shown (x ∷ c) = ap suc (length-shown c)
