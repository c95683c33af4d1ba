-- A difference in lent bytes is that of the record.
--   base-here, cuts-here     its base and its cuts, behind the front
--   base-model, cuts-model   as cubes of whole bytes
--   difference-some, difference-own   where a record stands there is a difference, and it is the record's
--   narrow-cube              the cubes of a header's width are short
--   record-there             an accepted record stands where its front says
--   difference-there         its difference is at its offset
use Prim.Native.Nat.{ℕ, ◌+◌, ◌-◌, ◌≤◌}
use native.Mathlib.Omega.{arith}
use mathlib.Core.Path.{◌≡◌, refl, ap, subst, ◌∙◌}
use mathlib.Core.List.{List, map}
use mathlib.Core.Bool.{Bool}
use Rattle.std.specs.Prelude.{Option, Some, None, IsSome}
use lib.ListN.{length, take, drop}
use lib.Seq.{drop-drop}
use Rattle.format.specs.Limits.{widest, widest_cube}
use Rattle.format.specs.Bytes.{codes, cube_len}
use Rattle.format.proofs.Recording.{Record}
use Rattle.cube.specs.Whole.{cube_of, whole_at, wholes_at}
use Rattle.cube.specs.Row.{slices}
use Rattle.cube.proofs.Rows.{slices-cubes}
use Rattle.region.specs.declared.front.Front.{Front}
use Rattle.region.specs.declared.difference.Difference.{Difference}
use Rattle.region.specs.Front.{FrontIs, Stands}
use Rattle.region.specs.Difference.{DifferenceOf, DifferenceIs, DifferenceAt}
use Rattle.region.proofs.Fronts.{tail, front_same, front-stands}

module _ (q : ℕ) (s : List ℕ) (a : ℕ) where
  pub base-here : (b : List ℕ) → b ≡ take q (take (length s - a) (drop a s)) → b ≡ take q (drop a s)
  base-here b e = e ∙ ap (take q) (tail s a)

  pub cuts-here : (k : ℕ) (bytes : List ℕ) → bytes ≡ drop q (take (length s - a) (drop a s)) → slices q bytes k ≡ slices q (drop (a + q) s) k
  cuts-here k bytes e = ap (λ (b : List ℕ). slices q b k) (e ∙ ap (drop q) (tail s a) ∙ drop-drop q a s)

  pub base-model : (b : List ℕ) → b ≡ take q (drop a s) → codes b ≡ whole_at q s a
  unfolding whole_at cube_of
  base-model b e = ap codes e

  pub cuts-model : (k : ℕ) (cs : List (List ℕ)) → cs ≡ slices q (drop a s) k → map codes cs ≡ wholes_at q s a k
  cuts-model k cs e = ap (map codes) e ∙ slices-cubes q s a k

module _ (q : ℕ) (s : List ℕ) (f : Front) where
  pub difference-some : (x : Option Difference) → DifferenceIs q s f x → q ≤ widest_cube → Stands q s f → IsSome x
  difference-some None h n t = absurd (h n t)
  difference-some (Some d) h n t = refl

  pub difference-own : (x : Option Difference) {d : Difference} → DifferenceIs q s f x → x ≡ Some d → DifferenceOf q s f d
  difference-own x h e = subst (λ (y : Option Difference). DifferenceIs q s f y) e h

pub narrow-cube : (w : ℕ) → w ≤ widest → cube_len w ≤ widest_cube
narrow-cube w h = omega arith

module _ {s : List ℕ} {at : ℕ} {f : Front} (i : FrontIs s at f) (w q : ℕ) (z : q ≡ cube_len w) where
  pub record-there : {alone : Bool} {n : ℕ} → w ≤ widest → Record alone w n s at → (q ≤ widest_cube) × Stands q s f
  record-there h r = rw z (narrow-cube w h, front-stands r i)

  pub difference-there : {d : Difference} → DifferenceOf q s f d → DifferenceAt w s at d
  difference-there h = rw (z, front_same s at i) at h
