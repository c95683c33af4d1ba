-- The slices of a row.
--   AllLong q xs         == every list of xs has q numbers
--   slices-long          the slices of a row have as many bytes as it says
--   cuts-long, cuts-few      the cuts of a difference have as many bytes as its base, and they are few
--   long-last                the last of such lists, and those before it
use Prim.Native.Nat.{ℕ, zero, suc, ◌+◌, ◌*◌, ◌≤◌}
use native.Mathlib.Nat.{suc-mul}
use native.Mathlib.Omega.{arith}
use mathlib.Core.Path.{◌≡◌}
use mathlib.Core.List.{List, [], ◌∷◌, ◌++◌}
use lib.ListN.{length, drop, length-drop}
use lib.Seq.{length-take-le}
use Rattle.format.specs.Limits.{most_cuts}
use Rattle.cube.specs.Row.{slices, slices_of}
use Rattle.cube.proofs.Rows.{slices-length}
use Rattle.region.specs.declared.difference.Difference.{Difference}

abbrev pub AllLong : ℕ → List (List ℕ) → Type 0
AllLong q [] = Unit {0}
AllLong q (x ∷ xs) = (length x ≡ q) × AllLong q xs

pub slices-long : (q : ℕ) (bs : List ℕ) (n : ℕ) → n * q ≤ length bs → AllLong q (slices q bs n)
slices-long q bs zero h = tt
slices-long q bs (suc n) h =
    let m : suc n * q ≡ n * q + q = suc-mul n q in
    (length-take-le q bs (omega arith), slices-long q (drop q bs) n (simp length-drop (omega arith)))

-- the cuts of a difference have as many bytes as its base
pub cuts-long : (d : Difference) → AllLong (length d.base.now) (slices_of d.cuts)
cuts-long d = rw (← d.alike) (slices-long d.cuts.size d.cuts.bytes.now d.cuts.count d.cuts.within)

pub cuts-few : (d : Difference) → length (slices_of d.cuts) ≤ most_cuts
cuts-few d = rw (slices-length d.cuts.size d.cuts.bytes.now d.cuts.count) d.few

pub long-last : (q : ℕ) (xs : List (List ℕ)) (x : List ℕ) → AllLong q (xs ++ (x ∷ [])) → (length x ≡ q) × AllLong q xs
long-last q [] x (h, t) = (h, tt)
long-last q (y ∷ xs) x (h, t) = let r = long-last q xs x t in (r.0, (h, r.1))
