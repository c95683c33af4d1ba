-- Asking a record for a header by bytes: one turn of the question, and what the answer means.
--   any-slices       whether it lies in one of the slices is whether it is in one of the cubes
--   held-short, held-out, held-through   too few bytes lent; not in the base; in the base, so the cuts decide
--   difference-held, record-held   of a record's difference as it stands there the answer is the record's
--   holder-more      the first holder with one record more
--   record-member    of an accepted record the answer is whether the header is in the difference
--   file-member      of the records of an accepted file, the first that it is true of is the first difference that holds the header
use Rattle.std.specs.Prelude.{Option, None, Some, MatchOption}
use Rattle.std.specs.Bool.{then_some}
use Prim.Native.Nat.{ℕ, zero, suc, ◌+◌, ◌-◌, ◌*◌, ◌≤◌, ◌<◌}
use native.Mathlib.Nat.{sub-zero}
use native.Mathlib.Omega.{arith}
use mathlib.Core.Path.{◌≡◌, refl, ap, ap₂, ◌∙◌}
use mathlib.Core.List.{List}
use mathlib.Core.Bool.{Bool, true, false, cond, not, ◌&&◌, ◌||◌}
use lib.ListN.{length, take, drop, length-take, length-drop}
use lib.Seq.{length-take-le, drop-drop}
use Rattle.std.specs.List.{list_any}
use Rattle.model.specs.Cube.{holds}
use Rattle.model.specs.Difference.{any_holds, in_difference, held, further, first_holder, Holder}
use Rattle.format.specs.Limits.{widest}
use Rattle.format.specs.Bytes.{header_len, cube_len, read_header, codes, cube_fault}
use Rattle.format.specs.Records.{count_at, base_at, cube_at, cubes_at, difference_at}
use Rattle.format.specs.Files.{region_of}
use Rattle.format.proofs.Recording.{Record, each-cube}
use Rattle.format.proofs.Filing.{Listed, ended, listed}
use Rattle.cube.specs.Header.{spelled_cube}
use Rattle.cube.specs.Pair.{lies_in}
use Rattle.cube.specs.Row.{slices, slices_of}
use Rattle.cube.proofs.Pairs.{lies-apart}
use Rattle.cube.proofs.Member.{spelled-in}
use Rattle.region.specs.declared.front.Front.{Front}
use Rattle.region.specs.declared.difference.Difference.{Difference}
use Rattle.region.specs.Difference.{held_in, DifferenceOf, DifferenceAt}
use Rattle.region.proofs.Fronts.{front-base, front-own}
use Rattle.region.specs.Asked.{cube_in, any_in, held_by, in_record, first_record, holder_of, or_held}

-- the cuts as slices
pub any-slices : (q : ℕ) (h s : List ℕ) (a k : ℕ) → list_any (lies_in (take q h)) (slices q (drop a s) k) ≡ any_in q h s a k
unfolding any_in cube_in
any-slices q h s a zero = refl
any-slices q h s a (suc k) =
    ap (λ (b : Bool). lies_in (take q h) (take q (drop a s)) || b)
    (ap (λ (b : List ℕ). list_any (lies_in (take q h)) (slices q b k)) (drop-drop q a s) ∙ any-slices q h s (a + q) k)

-- a stretch of bytes has its length
stretch : (q : ℕ) (s : List ℕ) (a : ℕ) → a + q ≤ length s → length (take q (drop a s)) ≡ q
stretch q s a l = length-take-le q (drop a s) (simp length-drop (omega arith))

-- a difference as it stands there
pub held-short : (h : List ℕ) (d : Difference) → length h < length d.base.now → false ≡ held_in h d
unfolding held_in
held-short h d l =
    let n : length (take (length d.base.now) h) ≡ length d.base.now → ⊥ = λ e. omega (arith, length-take (length d.base.now) h) in
    rw (← lies-apart (take (length d.base.now) h) d.base.now n) refl

module _ (h : List ℕ) (d : Difference) (head : List ℕ) (e : head ≡ take (length d.base.now - 0) h) (b : Bool) (f : b ≡ lies_in head d.base.now) where
  pub held-out : b ≡ false → b ≡ held_in h d
  unfolding held_in
  held-out g = g ∙ rw (← (rw (e, sub-zero) at f), g) refl

  pub held-through : b ≡ true → (r : Bool) → r ≡ list_any (lies_in head) (slices_of d.cuts) → not r ≡ held_in h d
  unfolding held_in
  held-through g r k = rw (← (rw (e, sub-zero) at f), g, rw (e, sub-zero) at k) refl

by-bytes : (q a k : ℕ) (h s base : List ℕ) (cuts : List (List ℕ)) (n : ℕ) → n ≡ q → base ≡ take q (drop a s) → cuts ≡ slices q (drop (a + q) s) k
    → (lies_in (take n h) base && not (list_any (lies_in (take n h)) cuts)) ≡ held_by q h s a k
unfolding held_by cube_in
by-bytes q a k h s base cuts n e f g = rw (e, f, g) (ap (λ (b : Bool). lies_in (take q h) (take q (drop a s)) && not b) (any-slices q h s (a + q) k))

pub difference-held : {q : ℕ} {s : List ℕ} {f : Front} {d : Difference} → DifferenceOf q s f d → (h : List ℕ) → held_in h d ≡ held_by q h s f.base f.cuts
unfolding held_in
difference-held {q} {s} {f} {d} i h = by-bytes q f.base f.cuts h s d.base.now (slices_of d.cuts) _ i.size i.base i.cuts

pub record-held : {alone : Bool} {w n : ℕ} {s : List ℕ} {at : ℕ} {d : Difference} → Record alone w n s at → DifferenceAt w s at d → (h : List ℕ)
    → held_in h d ≡ in_record w h s at
record-held {s = s} {at = at} r i h = difference-held i h ∙ rw (front-base r (front-own s at)) refl

-- the first holder, with one record more, where one was found before or this record was asked
pub holder-more : (x : Option ℕ) (b : Bool) (n : ℕ) (r : Option ℕ) → MatchOption x (r ≡ then_some b n) (λ y. r ≡ Some y)
    → holder_of r ≡ or_held (holder_of x) b n
holder-more None true n r h = ap holder_of h
holder-more None false n r h = ap holder_of h
holder-more (Some i) b n r h = ap holder_of h

-- what the answer means, where c spells the header of the bytes h
module _ (w : ℕ) (h c : List ℕ) (narrow : w ≤ widest) (l : length h ≡ header_len w) (e : codes c ≡ spelled_cube h) where
  here-holds : (s : List ℕ) (a : ℕ) → a + cube_len w ≤ length s → cube_fault w (take (cube_len w) (drop a s)) ≡ 0
      → cube_in (cube_len w) c s a ≡ holds (cube_at w s a) (read_header w h)
  unfolding cube_in cube_at
  here-holds s a m f = spelled-in w h c (take (cube_len w) (drop a s)) narrow l e (stretch (cube_len w) s a m) f

  any-holds : (s : List ℕ) (k a : ℕ) → a + k * cube_len w ≤ length s
      → ((i : ℕ) → i < k → cube_fault w (take (cube_len w) (drop (a + i * cube_len w) s)) ≡ 0)
      → any_in (cube_len w) c s a k ≡ any_holds (cubes_at w s a k) (read_header w h)
  unfolding any_in cubes_at
  any-holds s zero a m f = refl
  any-holds s (suc k) a m f =
      let z : a + 0 * cube_len w ≡ a = omega arith in
      let first = here-holds s a (omega arith) (rw z at (f 0 (omega arith))) in
      let next : (i : ℕ) → a + cube_len w + i * cube_len w ≡ a + suc i * cube_len w = λ i. omega arith in
      let later = any-holds s k (a + cube_len w) (omega arith) (λ i j. rw (next i) (f (suc i) (omega arith))) in
      ap₂ (λ (x y : Bool). x || y) first later

  pub record-member : {alone : Bool} {n : ℕ} {s : List ℕ} {at : ℕ} → Record alone w n s at
      → in_record w c s at ≡ in_difference (difference_at w s at) (read_header w h)
  unfolding held_by
  record-member {s = s} {at = at} r =
      let q = cube_len w in
      let base = base_at s at in
      let z : base + 0 * q ≡ base = omega arith in
      let first = here-holds s base (omega arith) (rw z at (each-cube r 0 (omega arith))) in
      let next : (i : ℕ) → base + q + i * q ≡ base + suc i * q = λ i. omega arith in
      let cuts = any-holds s (count_at s at) (base + q) (omega arith) (λ i j. rw (next i) (each-cube r (suc i) (omega arith))) in
      ap₂ (λ (x y : Bool). x && not y) first cuts

  pub file-member : {s : List ℕ} {at n : ℕ} {os : List ℕ} → Listed w s at n os
      → first_record w c s os ≡ first_holder (region_of w s os) (read_header w h)
  file-member (ended m) = refl
  file-member (listed r rest) = ap₂ (λ (b : Bool) (x : Holder). cond b (held 0) (further x)) (record-member r) (file-member rest)
