-- The cubes of a record, as slices of it.
--   slices-fault      what is wrong with the first bad one of the slices is what is wrong with the first bad one of the cubes
--   front-few, front-room, front-row    where the numbers of a record have no fault, its cuts are not too many, and its cubes are there
--   front-faults      and what is wrong with them is what is wrong with the record
use Prim.Native.Nat.{ℕ, zero, suc, ◌+◌, ◌-◌, ◌*◌, ◌≤◌}
use native.Mathlib.Omega.{arith}
use mathlib.Core.Path.{◌≡◌, refl, ap, ◌∙◌}
use mathlib.Core.List.{List}
use mathlib.Core.Bool.{Bool, cond}
use lib.Dec.{eqb}
use lib.ListN.{length, take, drop, length-drop}
use lib.Seq.{drop-drop}
use Rattle.format.specs.Rows.{last, outcome}
use Rattle.format.specs.Limits.{most_cuts}
use Rattle.format.specs.Bytes.{cube_len, cube_fault}
use Rattle.format.specs.Records.{front_len, count_at, base_at, cubes_fault, number_rows, difference_fault}
use Rattle.format.proofs.Lending.{numbers-passed, numbers-clean}
use Rattle.cube.specs.Row.{slices}
use Rattle.region.specs.declared.front.Front.{Front}
use Rattle.region.specs.Front.{FrontIs}
use Rattle.region.specs.Reader.{slices_fault}
use Rattle.region.proofs.Fronts.{tail}

pub slices-fault : (w : ℕ) (s : List ℕ) (a k : ℕ) → slices_fault w (slices (cube_len w) (drop a s) k) ≡ cubes_fault w s a k
unfolding cubes_fault
slices-fault w s a zero = refl
slices-fault w s a (suc k) =
    let q = cube_len w in
    let first = cube_fault w (take q (drop a s)) in
    ap (λ (later : ℕ). cond (eqb first 0) later first)
    (ap (λ (b : List ℕ). slices_fault w (slices q b k)) (drop-drop q a s) ∙ slices-fault w s (a + q) k)

module _ (alone : Bool) (w n : ℕ) (s : List ℕ) (at : ℕ) {f : Front} (i : FrontIs s at f) (e : 0 ≡ outcome (number_rows alone w n s at)) where
  base : f.base ≡ base_at s at
  unfolding base_at front_len
  base = omega (arith, numbers-clean alone w n s at 0 e refl, i.base)

  pub front-room : f.base + (f.cuts + 1) * cube_len w ≤ length s
  unfolding base_at front_len
  front-room = rw (base, i.cuts) (omega (arith, numbers-clean alone w n s at 0 e refl))

  pub front-few : f.cuts ≤ most_cuts
  front-few = omega (arith, numbers-clean alone w n s at 0 e refl, i.cuts)

  pub front-row : (q : ℕ) → q ≡ cube_len w → (f.cuts + 1) * q ≤ length (take (length s - f.base) (drop f.base s))
  front-row q z = rw (tail s f.base, z) (simp length-drop (omega (arith, front-room)))

  pub front-faults : (r q : ℕ) → q ≡ cube_len w → r ≡ slices_fault w (slices q (take (length s - f.base) (drop f.base s)) (f.cuts + 1))
      → r ≡ difference_fault alone w n s at
  unfolding difference_fault outcome
  front-faults r q z h =
      let k = cubes_fault w s (base_at s at) (count_at s at + 1) in
      rw (tail s f.base, z, base, i.cuts) at h ∙ slices-fault w s (base_at s at) (count_at s at + 1) ∙ numbers-passed alone w n s at 0 e (last k) refl
