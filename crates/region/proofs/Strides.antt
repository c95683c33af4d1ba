-- Stepping through numbers.
--   steps-end, steps-turn      stepping at the end, and before it, where each step goes on
use Prim.Native.Nat.{ℕ, zero, suc, ◌+◌, ◌-◌, ◌≤◌, ◌<◌}
use native.Mathlib.Omega.{arith}
use mathlib.Core.Path.{◌≡◌, refl, sym, ap, ◌∙◌}
use mathlib.Core.List.{List, [], ◌∷◌}
use mathlib.Core.Bool.{Bool, true, false}
use lib.Dec.{leb}
use borrow.Author.Tests.{le-leb, lt-leb, leb-true, leb-false}
use Rattle.region.specs.Ahead.{steps_by, steps}

module _ (next : ℕ → ℕ) (end : ℕ) where
  by_end : (n x : ℕ) → end ≤ x → steps_by n next end x ≡ []
  unfolding steps_by
  by_end zero x h = refl
  by_end (suc n) x h = rw (le-leb end x h)

  by_turn : (n x : ℕ) → x < end → steps_by (suc n) next end x ≡ x ∷ steps_by n next end (next x)
  unfolding steps_by
  by_turn n x h = rw (lt-leb end x h)

  pub steps-end : (x : ℕ) → end ≤ x → steps next end x ≡ []
  steps-end x h = by_end (end - x) x h

  module _ (on : (x : ℕ) → x < end → x < next x) where
    -- more turns than there are numbers left change nothing
    enough : (n m x : ℕ) → end ≤ x + n → end ≤ x + m → steps_by n next end x ≡ steps_by m next end x
    enough zero m x h k = by_end 0 x (omega arith) ∙ sym (by_end m x (omega arith))
    enough (suc n) zero x h k = by_end (suc n) x (omega arith) ∙ sym (by_end 0 x (omega arith))
    enough (suc n) (suc m) x h k = go (leb end x) refl (λ l. enough n m (next x) (omega (arith, on x l)) (omega (arith, on x l)))
      where
        go : (b : Bool) → leb end x ≡ b → (x < end → steps_by n next end (next x) ≡ steps_by m next end (next x))
            → steps_by (suc n) next end x ≡ steps_by (suc m) next end x
        go true e more = let l = leb-true end x e in by_end (suc n) x l ∙ sym (by_end (suc m) x l)
        go false e more =
            let l = leb-false end x e in
            by_turn n x l ∙ ap (λ (xs : List ℕ). x ∷ xs) (more l) ∙ sym (by_turn m x l)

    pub steps-turn : (x : ℕ) → x < end → steps next end x ≡ x ∷ steps next end (next x)
    steps-turn x h =
        let e : end - x ≡ suc (end - (x + 1)) = omega arith in
        let more = enough (end - (x + 1)) (end - next x) (next x) (omega (arith, on x h)) (omega (arith, on x h)) in
        rw e (by_turn (end - (x + 1)) x h ∙ ap (λ (xs : List ℕ). x ∷ xs) more)
