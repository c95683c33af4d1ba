-- Walks that are paid for as a whole.
--   pays-short, pays-whole   a walk of k pieces in which nothing survives, on an allowance
--   covered-finds            a walk that an allowance paid and that is covered
use Prim.Native.Nat.{ℕ, ◌+◌, ◌-◌, ◌≤◌, ◌<◌}
use native.Mathlib.Omega.{arith}
use mathlib.Core.Path.{◌≡◌, refl, sym, ap, ◌∙◌}
use mathlib.Core.Logic.{⊎_elim}
use mathlib.Core.List.{[]}
use Rattle.model.specs.Walk.{Survivor, nothing, piece, Found}
use Rattle.visits.specs.Settle.{Said, after, said_of, settle}
use Rattle.visits.specs.Memory.{Finds}
use Rattle.visits.specs.declared.allowance.Allowance.{Allowance}
use Rattle.visits.specs.declared.allowance.Verdict.TheVariants.{Covered, Undecided}
use Rattle.visits.proofs.Settle.{settle-le, settle-lt}
use Rattle.visits.proofs.Digits.{below_or}

pub pays-short : (a : Allowance) (k : ℕ) → a.left < k → (u : Found) → Finds k u
    → record { allowance = record { left = 0; spent = a.spent + a.left }; verdict = Undecided; piece = [] } ≡ settle a u
pays-short a k h u f =
    let z : 0 ≡ a.left - a.left = omega arith in
    sym (settle-lt a u (omega (arith, f.0)) ∙ λ i. record { allowance = record { left = sym z i; spent = a.spent + a.left }; verdict = Undecided; piece = [] })

pub pays-whole : (a : Allowance) (k : ℕ) → k ≤ a.left → (u : Found) → Finds k u
    → record { allowance = record { left = a.left - k; spent = a.spent + k }; verdict = Covered; piece = [] } ≡ settle a u
pays-whole a k h u f = sym (settle-le a u (omega (arith, f.0)) ∙ rw (f.0, f.1))

pub covered-finds : (a b : Allowance) (v : Found) → settle a v ≡ record { allowance = b; verdict = Covered; piece = [] }
    → (a.spent ≤ b.spent) × Finds (b.spent - a.spent) v
covered-finds a b v e = ⊎_elim short enough (below_or a.left v.pieces)
  where
    Goal : Type 0
    Goal = (a.spent ≤ b.spent) × Finds (b.spent - a.spent) v

    enough : v.pieces ≤ a.left → Goal
    enough k = go v.survivor refl (sym (settle-le a v k) ∙ e)
      where
        go : (s : Survivor) → v.survivor ≡ s → said_of (after a v.pieces) s ≡ record { allowance = b; verdict = Covered; piece = [] } → Goal
        go nothing es q = let z = ap (λ (x : Said). x.allowance.spent) q in (omega (arith, z), (omega (arith, z), es))
        go (piece p) es q = let c = ap (λ (x : Said). x.verdict) q in let z : ◌≡◌ {A = ℕ} 0 1 = cc in absurd (omega arith)

    short : a.left < v.pieces → Goal
    short k = let c = ap (λ (x : Said). x.verdict) (sym (settle-lt a v k) ∙ e) in let z : ◌≡◌ {A = ℕ} 0 1 = cc in absurd (omega arith)
