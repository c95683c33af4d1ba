-- The cuts of a row, and a visit with them.
--   room                     n cuts of q bytes: the first, and the others
--   row-cubes                the cubes of a row, by where they stand in its bytes
--   row-none, row-first      a row with no cut; the first cut, and the others
--   cut-passed, cut-found    looking for a cut that shares a header: the first shares none, or shares one
use Prim.Native.Nat.{ℕ, suc, ◌+◌, ◌*◌, ◌≤◌}
use native.Mathlib.Nat.{suc-mul}
use native.Mathlib.Omega.{arith}
use mathlib.Core.Path.{◌≡◌, ap, ◌∙◌}
use mathlib.Core.Bool.{true, false}
use mathlib.Core.List.{List, []}
use lib.ListN.{length, take, drop}
use Rattle.model.specs.Cube.{Cube, shares}
use Rattle.model.specs.Walk.{visit}
use Rattle.model.proofs.Turns.{visit-passed}
use Rattle.format.specs.Bytes.{codes}
use Rattle.cube.specs.Whole.{wholes_at}
use Rattle.cube.specs.declared.row.Row.{Row}
use Rattle.cube.proofs.Rows.{slices-cubes}
use Rattle.visits.specs.Cuts.{cubes_of, FirstCutOf, NextCut}

pub room : (at n m q l : ℕ) → n ≡ suc m → at + n * q ≤ l → (at + q ≤ l) × (at + q + m * q ≤ l)
room at n m q l e h = let k : n * q ≡ m * q + q = rw (e, suc-mul) in omega arith

pub row-cubes : (r : Row) → cubes_of r ≡ wholes_at r.size r.bytes.now 0 r.count
unfolding cubes_of
row-cubes r = slices-cubes r.size r.bytes.now 0 r.count

pub row-none : (r : Row) → r.count ≡ 0 → cubes_of r ≡ []
unfolding cubes_of
row-none r e = rw e

pub row-first : (r s : Row) (c : List ℕ) → r.count ≡ suc s.count → c ≡ take r.size r.bytes.now → s.bytes.now ≡ drop r.size r.bytes.now
    → s.size ≡ r.size → length c ≡ r.size → FirstCutOf r c s
unfolding cubes_of
row-first r s c n ec eb es l = record { cubes = rw (n, ec, eb, es); long = l; size = es; count = n }

-- the row r, of which s is left
module _ (r s t : Row) (p : Cube) (c : List ℕ) (size : s.size ≡ r.size) (fewer : s.count ≤ r.count) (same : visit (cubes_of r) p ≡ visit (cubes_of s) p) (f : FirstCutOf s c t) where
  pub cut-passed : shares p (codes c) ≡ false → (t.size ≡ r.size) × (t.count ≤ r.count) × (visit (cubes_of r) p ≡ visit (cubes_of t) p)
  cut-passed h = (f.size ∙ size, omega (arith, f.count), same ∙ ap (λ cs. visit cs p) f.cubes ∙ visit-passed (codes c) (cubes_of t) p h)

  pub cut-found : shares p (codes c) ≡ true → NextCut r p c t
  cut-found h = record {
    same = same ∙ ap (λ cs. visit cs p) f.cubes;
    meets = h;
    long = f.long ∙ size;
    size = f.size ∙ size;
    fewer = omega (arith, f.count);
  }
