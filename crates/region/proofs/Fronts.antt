-- The front of a record.
--   tail             the part of a slice from an offset to its end
--   front-here       what is read behind an offset is the front there
--   front-end        where the slice has no byte the front is of zeros, and its offsets are the slice's end
--   front-own, front_same    `FrontIs` holds of the front there, and of no other
--   after-alone, after-others    the bytes after a record, where none may follow it, and where others may
--   front-base, front-next    an accepted record's base and end lie within its bytes, so its front has them as they are
--   front-stands     an accepted record stands where its front says
--   whole-record     an accepted record's difference of whole bytes is the model's, with unused places behind each cube
use Prim.Native.Nat.{ℕ, suc, ◌+◌, ◌-◌, ◌*◌, ◌≤◌, min}
use native.Mathlib.Nat.{add-zero}
use native.Mathlib.Omega.{arith}
use mathlib.Core.Path.{◌≡◌, refl, sym, ap, ◌∙◌}
use mathlib.Core.List.{List}
use mathlib.Core.Bool.{Bool, true, false}
use lib.ListN.{length, get_or, take, drop, length-drop, get_or-eq_default}
use lib.Seq.{get_or-drop, take_all}
use Rattle.model.specs.Difference.{less}
use Rattle.model.specs.Padding.{pad_difference}
use Rattle.format.specs.Bytes.{cube_len, unused}
use Rattle.format.specs.Records.{u16_at, next_at, count_at, front_len, base_at, difference_at, bytes_after}
use Rattle.format.proofs.Recording.{Record, each-cube}
use Rattle.cube.proofs.Wholes.{whole-padded, wholes-padded}
use Rattle.region.specs.declared.front.Front.{Front}
use Rattle.region.specs.Front.{front_at, FrontIs, Stands, whole_difference}

pub tail : (s : List ℕ) (at : ℕ) → take (length s - at) (drop at s) ≡ drop at s
tail s at = take_all (length s - at) (drop at s) (simp length-drop (omega arith))

module _ (s : List ℕ) (at : ℕ) where
  first : get_or (drop at s) 0 0 ≡ get_or s at 0
  first = get_or-drop at s 0 0 ∙ ap (λ (i : ℕ). get_or s i 0) (add-zero at)

  behind : (i : ℕ) → get_or (drop at s) i 0 ≡ get_or s (at + i) 0
  behind i = get_or-drop at s i 0

  pub front-here : (f : Front) → f.length ≡ u16_at (drop at s) 0 → f.kind ≡ u16_at (drop at s) 2 → f.cuts ≡ get_or (drop at s) 4 0
      → f.base ≡ min (at + 5) (length s) → f.next ≡ min (at + (2 + f.length)) (length s) → FrontIs s at f
  unfolding count_at base_at front_len
  front-here f l k c b n =
      let three : at + 2 + 1 ≡ at + 3 = omega arith in
      let kind : f.kind ≡ get_or s (at + 2) 0 + 256 * get_or s (at + 2 + 1) 0 = rw three (omega (arith, behind 2, behind 3)) in
      let size : f.length ≡ get_or s at 0 + 256 * get_or s (at + 1) 0 = omega (arith, first, behind 1) in
      record { length = size; kind = kind; cuts = c ∙ behind 4; base = b; next = omega arith }

  pub front-end : length s ≤ at → (f : Front) → f.length ≡ 0 → f.kind ≡ 0 → f.cuts ≡ 0 → f.base ≡ length s → f.next ≡ length s
      → FrontIs s at f
  unfolding count_at base_at front_len
  front-end h f l k c b n =
      let none : (i : ℕ) → at ≤ i → get_or s i 0 ≡ 0 = λ i m. get_or-eq_default s 0 {n = i} (omega arith) in
      record {
        length = omega (arith, none at (omega arith), none (at + 1) (omega arith));
        kind = omega (arith, none (at + 2) (omega arith), none (at + 2 + 1) (omega arith));
        cuts = c ∙ sym (none (at + 4) (omega arith));
        base = omega arith;
        next = omega arith;
      }

  pub front-own : FrontIs s at (front_at s at)
  front-own = record { length = refl; kind = refl; cuts = refl; base = refl; next = refl }

  pub front_same : {f : Front} → FrontIs s at f → f ≡ front_at s at
  front_same h = λ i. record { length = h.length i; kind = h.kind i; cuts = h.cuts i; base = h.base i; next = h.next i }

-- the bytes after a record
module _ (alone : Bool) (s : List ℕ) (at : ℕ) where
  pub after-alone : alone ≡ true → bytes_after alone s at ≡ length s - next_at s at
  after-alone e = rw e

  pub after-others : alone ≡ false → bytes_after alone s at ≡ 0
  after-others e = rw e

-- an accepted record
module _ {alone : Bool} {w n : ℕ} {s : List ℕ} {at : ℕ} (r : Record alone w n s at) {f : Front} (i : FrontIs s at f) where
  pub front-base : f.base ≡ base_at s at
  front-base = omega arith

  pub front-next : f.next ≡ next_at s at
  front-next = omega arith

  pub front-stands : Stands (cube_len w) s f
  front-stands = record { few = omega arith; within = rw (front-base, i.cuts) (omega arith) }

  pub whole-record : whole_difference (cube_len w) s f ≡ pad_difference (unused w) (difference_at w s at)
  whole-record =
      let q = cube_len w in
      let base = base_at s at in
      let z : base + 0 * q ≡ base = omega arith in
      let b = whole-padded w s base (omega arith) (rw z at (each-cube r 0 (omega arith))) in
      let c = wholes-padded w s (base + q) (count_at s at) (omega arith)
      (λ j l. let y : base + suc j * q ≡ base + q + j * q = omega arith in rw y at (each-cube r (suc j) (omega arith))) in
      rw (front-base, i.cuts) (λ j. less (b j) (c j))
