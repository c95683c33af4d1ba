-- The first difference of a region that holds a header.
--   held_in        there is one exactly where the header is in the region
--   held_first     the first holder is the first difference that the header is in
use Prim.Native.Nat.{ℕ, zero, suc, ◌<◌}
use native.Mathlib.Omega.{arith}
use mathlib.Core.Path.{◌≡◌, refl, ap, ◌∙◌}
use mathlib.Core.List.{[], ◌∷◌}
use mathlib.Core.Bool.{Bool, true, false, cond, ◌||◌}
use Rattle.model.specs.Cube.{Header}
use Rattle.model.specs.Difference.{Difference, Region, in_difference, in_region, Holder, unheld, held, further, first_holder, is_held}
use Rattle.model.specs.Index.{difference_of, FirstIn}

further-held : (x : Holder) → is_held (further x) ≡ is_held x
further-held unheld = refl
further-held (held i) = refl

pub held_in : (r : Region) (h : Header) → is_held (first_holder r h) ≡ in_region r h
held_in [] h = refl
held_in (d ∷ r) h = go (in_difference d h) (held_in r h)
  where
    go : (b : Bool) → is_held (first_holder r h) ≡ in_region r h → is_held (cond b (held 0) (further (first_holder r h))) ≡ b || in_region r h
    go true ih = refl
    go false ih = further-held (first_holder r h) ∙ ih

first-further : (d : Difference) (r : Region) (h : Header) (i : ℕ) → in_difference d h ≡ false → FirstIn r h i → FirstIn (d ∷ r) h (suc i)
first-further d r h i e f = record { there = omega (arith, f.there); holding = f.holding; before = earlier }
  where
    earlier : (j : ℕ) → j < suc i → in_difference (difference_of (d ∷ r) j) h ≡ false
    earlier zero l = e
    earlier (suc j) l = f.before j (omega arith)

pub held_first : (r : Region) (h : Header) (i : ℕ) → first_holder r h ≡ held i → FirstIn r h i
held_first [] h i e = let no : ◌≡◌ {A = ℕ} 0 1 = cc in absurd (omega arith)
held_first (d ∷ r) h i e = go (in_difference d h) refl (first_holder r h) refl (held_first r h) i e
  where
    go : (b : Bool) → in_difference d h ≡ b → (x : Holder) → first_holder r h ≡ x
        → ((k : ℕ) → first_holder r h ≡ held k → FirstIn r h k) → (i : ℕ) → cond b (held 0) (further x) ≡ held i → FirstIn (d ∷ r) h i
    go true t x f ih zero e = record { there = omega arith; holding = t; before = λ j l. absurd (omega arith) }
    go true t x f ih (suc i) e = let z : ◌≡◌ {A = ℕ} 0 (suc i) = cc in absurd (omega arith)
    go false t unheld f ih i e = let no : ◌≡◌ {A = ℕ} 0 1 = cc in absurd (omega arith)
    go false t (held k) f ih zero e = let z : ◌≡◌ {A = ℕ} (suc k) 0 = cc in absurd (omega arith)
    go false t (held k) f ih (suc i) e =
        let z : ◌≡◌ {A = ℕ} (suc k) (suc i) = cc in
        let y : k ≡ i = omega arith in
        first-further d r h i t (ih i (f ∙ ap held y))
