-- Unused places behind the positions of the base and the cuts change nothing in the ceiling: they are free in all of them, and matter not.
--   ceiling-pad         the ceiling
use Prim.Native.Nat.{ℕ, zero, suc}
use native.Mathlib.Omega.{arith}
use mathlib.Core.Path.{◌≡◌, refl, sym, ap, ◌∙◌}
use mathlib.Core.List.{List, [], ◌∷◌, ◌++◌, map}
use mathlib.Core.Bool.{Bool, true, false, ◌||◌, cond}
use lib.ListN.{length, replicate}
use Rattle.model.specs.Cube.{Cube, free, shares}
use Rattle.model.specs.Difference.{less}
use Rattle.model.specs.Walk.{opens}
use Rattle.model.specs.Ceiling.{meeting, mark, unmarked, matters, marks, ceiling}
use Rattle.model.specs.Padding.{pad}
use Rattle.model.proofs.Padding.{Lengths, uneven, shares-pad, from-pad}
use Rattle.model.proofs.Ceilings.{matters-long}

-- marks, and none behind them
abbrev behind : ℕ → List Bool → List Bool
behind u ms = ms ++ replicate u false

marks-behind : (u : ℕ) (ms : List Bool) → marks (behind u ms) ≡ marks ms
unfolding marks
marks-behind zero [] = refl
marks-behind (suc u) [] = marks-behind u []
marks-behind u (m ∷ ms) = rw (marks-behind u ms)

unmarked-pad : (u : ℕ) (b : Cube) → unmarked (pad u b) ≡ behind u (unmarked b)
unmarked-pad zero [] = refl
unmarked-pad (suc u) [] = ap (λ (ms : List Bool). false ∷ ms) (unmarked-pad u [])
unmarked-pad u (x ∷ b) = ap (λ (ms : List Bool). false ∷ ms) (unmarked-pad u b)

free-mark : (u : ℕ) → mark (replicate u free) (replicate u free) (replicate u false) ≡ replicate u false
unfolding mark
free-mark zero = refl
free-mark (suc u) = ap (λ (ms : List Bool). false ∷ ms) (free-mark u)

mark-pad : (u : ℕ) (b c : Cube) (ms : List Bool) → length b ≡ length c → length ms ≡ length b
    → mark (pad u b) (pad u c) (behind u ms) ≡ behind u (mark b c ms)
unfolding mark
mark-pad u [] [] [] e f = free-mark u
mark-pad u [] [] (m ∷ ms) e f = uneven (length ms) (sym f)
mark-pad u [] (y ∷ c) ms e f = uneven (length c) e
mark-pad u (x ∷ b) [] ms e f = uneven (length b) (sym e)
mark-pad u (x ∷ b) (y ∷ c) [] e f = uneven (length b) f
mark-pad u (x ∷ b) (y ∷ c) (m ∷ ms) e f = ap (λ (ns : List Bool). (opens x y || m) ∷ ns) (mark-pad u b c ms (omega arith) (omega arith))

module _ (u w : ℕ) (b : Cube) (e : length b ≡ w) where
  meeting-pad : (cs : List Cube) → Lengths w cs → meeting (pad u b) (map (pad u) cs) ≡ meeting b cs
  unfolding meeting
  meeting-pad [] l = refl
  meeting-pad (c ∷ cs) l = rw (shares-pad u b c (e ∙ sym l.0), meeting-pad cs l.1)

  matters-pad : (cs : List Cube) → Lengths w cs → matters (pad u b) (map (pad u) cs) ≡ behind u (matters b cs)
  unfolding matters
  matters-pad [] l = unmarked-pad u b
  matters-pad (c ∷ cs) l =
      let k = e ∙ sym l.0 in
      rw (shares-pad u b c k, matters-pad cs l.1, mark-pad u b c (matters b cs) k (matters-long b cs)) (go (shares b c))
    where
      go : (g : Bool) → cond g (behind u (mark b c (matters b cs))) (behind u (matters b cs)) ≡ behind u (cond g (mark b c (matters b cs)) (matters b cs))
      go true = refl
      go false = refl

  pub ceiling-pad : (cs : List Cube) → Lengths w cs → ceiling (less (pad u b) (map (pad u) cs)) ≡ ceiling (less b cs)
  ceiling-pad cs l = rw (from-pad u w b cs e l, meeting-pad cs l, matters-pad cs l, marks-behind u (matters b cs))
