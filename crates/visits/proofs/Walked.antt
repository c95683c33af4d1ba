-- What is walked, and what is not.
--   possible-fits, fits-possible, unfit   a walk can be exactly where it fits
--   walked-idle                    one that cannot be visits nothing
--   walked-settles                 one that can be is settled
--   walked-row                     the visit with the row of its cuts is the walk
use Prim.Native.Nat.{ℕ, ◌+◌, ◌*◌, ◌^◌, ◌≤◌, ◌<◌}
use native.Mathlib.Omega.{arith}
use mathlib.Core.Path.{◌≡◌, refl, sym, ◌∙◌}
use mathlib.Core.List.{List}
use mathlib.Core.Bool.{Bool, true, false, true≢false}
use lib.ListN.{length}
use Rattle.model.specs.Walk.{visit}
use Rattle.format.proofs.Reached.{reached, each}
use Rattle.cube.specs.Whole.{cube_of, wholes_at}
use Rattle.cube.specs.Row.{RowOf}
use Rattle.cube.specs.declared.row.Row.{Row}
use Rattle.cube.proofs.Rows.{slices-cubes}
use Rattle.visits.specs.Cuts.{cubes_of}
use Rattle.visits.specs.declared.allowance.Allowance.{Allowance}
use Rattle.visits.specs.declared.allowance.Outcome.{Outcome}
use Rattle.visits.specs.Settle.{says, settle}
use Rattle.visits.specs.Walked.{possible_rows, possible, idle, walked}

module _ (n q at left : ℕ) (a : Allowance) where
  abbrev Fits : Type 0
  Fits = (q ≤ 80) × (at + left * q ≤ n) × (left ≤ 65) × (a.left + a.spent < 2 ^ 32)

  no : false ≡ true → Fits
  no e = absurd (true≢false (sym e))

  pub possible-fits : possible n q at left a ≡ true → Fits
  unfolding possible
  possible-fits = each (λ b. b ≡ true → Fits) (possible_rows n q at left a) (
    λ h. no,
    λ narrow. (λ h. no, λ few. (λ h. no, λ inside. (λ h. no, λ paid e. omega arith))),
  )

  pub fits-possible : Fits → possible n q at left a ≡ true
  unfolding possible
  fits-possible f = sym (reached 4 (possible_rows n q at left a) (omega arith))

  pub unfit : (Fits → ⊥) → possible n q at left a ≡ false
  unfit f = go (possible n q at left a) refl
    where
      go : (b : Bool) → possible n q at left a ≡ b → b ≡ false
      go true e = absurd (f (possible-fits e))
      go false e = refl

module _ (q : ℕ) (piece s : List ℕ) (at left : ℕ) (a : Allowance) where
  pub walked-idle : possible (length s) q at left a ≡ false → idle a ≡ walked q piece s at left a
  unfolding walked
  walked-idle e = rw e

  pub walked-settles : (q ≤ 80) × (at + left * q ≤ length s) × (left ≤ 65) × (a.left + a.spent < 2 ^ 32)
      → walked q piece s at left a ≡ settle a (visit (wholes_at q s at left) (cube_of q piece))
  unfolding walked
  walked-settles f = rw (fits-possible (length s) q at left a f)

  -- the row of those cuts
  module _ (r : Row) (can : possible (length s) q at left a ≡ true) (k : RowOf s at q left r) where
    pub walked-row : (b : Allowance) (o : Outcome (List ℕ)) → b ≡ a → says r.size o ≡ settle b (visit (cubes_of r) (cube_of r.size piece))
        → says q o ≡ walked q piece s at left a
    unfolding cubes_of
    walked-row b o eb e = (rw (k.size, k.bytes, k.count, slices-cubes q s at left, eb) at e) ∙ sym (walked-settles (possible-fits (length s) q at left a can))
