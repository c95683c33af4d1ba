-- Walks one after another on an allowance, walk by walk.
--   ended-passed    a stop that is handed on
--   ended-none      no walk is left: all are covered
--   ended-here      the first is not covered: there they stop
--   ended-turn      the first is covered: they end as the others do, on what it left
use Prim.Native.Nat.{ℕ, suc, ◌+◌}
use native.Mathlib.Nat.{add-zero}
use native.Mathlib.Omega.{arith}
use mathlib.Core.Path.{◌≡◌, sym, ap, subst, ◌∙◌}
use mathlib.Core.List.{List, [], ◌∷◌}
use Rattle.std.specs.Prelude.{Result, Ok, Err, IsErrAnd}
use Rattle.model.specs.Walk.{Found, in_turn, stop}
use Rattle.visits.specs.declared.allowance.Allowance.{Allowance}
use Rattle.visits.specs.declared.allowance.Outcome.{Outcome}
use Rattle.visits.specs.Settle.{settle, says, decision}
use Rattle.visits.proofs.Settle.{settle-zero, said-on, said-stop, stop-covered, stop-decided}
use Rattle.walk.specs.declared.stop.Stop.{Stop}
use Rattle.walk.specs.Ending.{CoveredIs, Ended}

-- a stop that is handed on
pub ended-passed : (q : ℕ) (a : Allowance) (k : ℕ) (vs : List Found) (x : Stop) (r : Result Allowance Stop) → IsErrAnd r (λ y. y ≡ x)
    → Ended q a k vs (Err x) → Ended q a k vs r
ended-passed q a k vs x (Ok left) h e = absurd h
ended-passed q a k vs x (Err y) h e = subst (λ (z : Stop). Ended q a k vs (Err z)) (sym h) e

module _ (q : ℕ) (a : Allowance) (k : ℕ) where
  pub ended-none : Ended q a k [] (Ok a)
  ended-none = sym (settle-zero a)

  module _ (v : Found) (vs : List Found) (o : Outcome (List ℕ)) (e : says q o ≡ settle a v) where
    pub ended-here : (x : Stop) → CoveredIs o k (Err x) → Ended q a k (v ∷ vs) (Err x)
    ended-here x (d, is) =
        let here : k ≡ k + stop a.left (v ∷ vs) = sym (add-zero k) ∙ ap (λ (i : ℕ). k + i) (sym (stop-decided a v (says q o) e d vs)) in
        is q ∙ ap (λ (i : ℕ). decision i (says q o)) here ∙ ap (decision (k + stop a.left (v ∷ vs))) (said-stop a v _ (says q o) e d)

    pub ended-turn : (left : Allowance) → CoveredIs o k (Ok left) → (r : Result Allowance Stop) → Ended q left (k + 1) vs r → Ended q a k (v ∷ vs) r
    ended-turn left (c, is) (Ok n) t = t ∙ on
      where
        on : settle left (in_turn (λ v. v) vs) ≡ settle a (in_turn (λ v. v) (v ∷ vs))
        on = ap (λ (b : Allowance). settle b (in_turn (λ v. v) vs)) is ∙ sym (said-on a v _ (says q o) e c)
    ended-turn left (c, is) (Err x) t = t ∙ ap (λ (i : ℕ). decision i (settle left (in_turn (λ v. v) vs))) index ∙ ap (decision (k + stop a.left (v ∷ vs))) on
      where
        on : settle left (in_turn (λ v. v) vs) ≡ settle a (in_turn (λ v. v) (v ∷ vs))
        on = ap (λ (b : Allowance). settle b (in_turn (λ v. v) vs)) is ∙ sym (said-on a v _ (says q o) e c)

        one_more : (i : ℕ) → k + 1 + i ≡ k + suc i
        one_more i = omega arith

        index : k + 1 + stop left.left vs ≡ k + stop a.left (v ∷ vs)
        index =
            one_more (stop left.left vs) ∙ ap (λ (b : Allowance). k + suc (stop b.left vs)) is
            ∙ ap (λ (i : ℕ). k + i) (sym (stop-covered a v (says q o) e c vs))
