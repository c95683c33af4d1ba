-- Refusals have numbers from 10 on, so a smaller number tells that no test refused.
--   numbered              no refusal has the number 0
--   Refusal f             == f is 0, no fault, or from 10 on
--   lent-refusal, record-refusal, width-refusal, file-refusal    the faults of a lent cube, of a kind 2 and a kind 1 record and of a file are such
use Rattle.answer.specs.declared.refusal.Refusal as refusal
use Rattle.answer.specs.declared.refusal.Refusal.TheVariants.{Width, Bits, CubeLength, CodeZero, UnusedPlace, CutShort, Kind, Length, Cuts, Differences, TwoWidths, Bounds, Room, Index, Input}
use Rattle.answer.specs.Refusals.{number_of}
use mathlib.Core.Path.{◌≡◌}
use Prim.Native.Nat.{ℕ, zero, suc, ◌+◌, ◌*◌, ◌≤◌, min}
use native.Mathlib.Omega.{arith}
use mathlib.Core.List.{List, []}
use mathlib.Core.Bool.{Bool, true, false, cond}
use lib.Dec.{leb, eqb}
use lib.ListN.{length, take, drop}
use Rattle.format.specs.Bytes.{cube_len, cube_rows, cube_fault, lent_rows, lent_fault}
use Rattle.format.specs.Records.{count_at, base_at, next_at, width_of, first_at, width_rows, width_fault, cubes_fault, difference_rows, difference_fault}
use Rattle.format.specs.Files.{faulty, whole, fault_number, before, differences_from, read_file}
use Rattle.format.proofs.Reached.{each}
use Rattle.format.proofs.Filing.{before-number}

pub numbered : (r : refusal.Refusal) → number_of r ≡ 0 → ⊥
numbered Width e = omega arith
numbered Bits e = omega arith
numbered CubeLength e = omega arith
numbered CodeZero e = omega arith
numbered UnusedPlace e = omega arith
numbered CutShort e = omega arith
numbered Kind e = omega arith
numbered Length e = omega arith
numbered Cuts e = omega arith
numbered Differences e = omega arith
numbered TwoWidths e = omega arith
numbered Bounds e = omega arith
numbered Room e = omega arith
numbered Index e = omega arith
numbered Input e = omega arith

-- a form that arithmetic reads
abbrev pub Refusal : ℕ → Type 0
Refusal f = 10 * min f 1 ≤ f

either : {A : Type 0} (f : A → ℕ) (b : Bool) (x y : A) → Refusal (f x) → Refusal (f y) → Refusal (f (cond b x y))
either f true x y p q = p
either f false x y p q = q

cube-refusal : (w : ℕ) (bs : List ℕ) → Refusal (cube_fault w bs)
unfolding cube_fault
cube-refusal w bs = each Refusal (cube_rows w bs) (omega arith)

pub lent-refusal : (w : ℕ) (bs : List ℕ) → Refusal (lent_fault w bs)
unfolding lent_fault
lent-refusal w bs = each Refusal (lent_rows w bs) (omega arith)

module _ (w : ℕ) (s : List ℕ) where
  cubes-refusal : (k at : ℕ) → Refusal (cubes_fault w s at k)
  unfolding cubes_fault
  cubes-refusal zero at = omega arith
  cubes-refusal (suc k) at =
      let first = cube_fault w (take (cube_len w) (drop at s)) in
      either (λ f. f) (eqb first 0) _ _ (cubes-refusal k (at + cube_len w)) (cube-refusal w (take (cube_len w) (drop at s)))

  pub record-refusal : (alone : Bool) (n at : ℕ) → Refusal (difference_fault alone w n s at)
  unfolding difference_fault
  record-refusal alone n at = each Refusal (difference_rows alone w n s at) (omega (arith, cubes-refusal (count_at s at + 1) (base_at s at)))

  from-refusal : (t at n : ℕ) → Refusal (fault_number (differences_from t w s at n))
  unfolding differences_from
  from-refusal zero at n = omega arith
  from-refusal (suc t) at n =
      let f = difference_fault false w n s at in
      let rest = differences_from t w s (next_at s at) (n + 1) in
      let begun : Refusal (fault_number (before at rest)) = rw (before-number at rest) (from-refusal t (next_at s at) (n + 1)) in
      either fault_number (leb (length s) at) (whole []) _ (omega arith) (either fault_number (eqb f 0) _ (faulty f at) begun (record-refusal false n at))

pub width-refusal : (s : List ℕ) → Refusal (width_fault s)
unfolding width_fault
width-refusal s = each Refusal (width_rows s) (omega arith)

pub file-refusal : (s : List ℕ) → Refusal (fault_number (read_file s))
unfolding read_file
file-refusal s = either fault_number (eqb (width_fault s) 0) _ (faulty (width_fault s) 0) (from-refusal (width_of s) s (length s) (first_at s) 0) (width-refusal s)
