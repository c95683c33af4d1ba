-- The calls that hand back a stretch of the file or a place in it.
--   map_at, listed_at        what stands at an index of a list made from another, and at one of an accepted file's offsets
--   view-told                where a view's number is 1, its stretch is the cube asked for (`Seen`)
--   read_on-record           where a step's number is 1, it gives the accepted record there (`Onward`)
--   read_on-end              where a step's number is 2, the place is the file's end
--   read_on-stays            where a step's number is not 1, the place stays
use Prim.Native.Nat.{ℕ, zero, suc, ◌+◌, ◌*◌, ◌≤◌, ◌<◌}
use native.Mathlib.Nat.{mul-le-mul_right}
use native.Mathlib.Omega.{arith}
use mathlib.Core.Path.{◌≡◌, refl, sym, ap, ◌∙◌}
use mathlib.Core.List.{List, [], ◌∷◌, map}
use mathlib.Core.Bool.{false}
use lib.ListN.{length, get_or, length-map}
use Rattle.model.specs.Difference.{Difference, less}
use Rattle.answer.specs.Answer.{yes, refused, fault}
use Rattle.format.specs.Rows.{last, row, below, isnt}
use Rattle.format.specs.Bytes.{cube_len}
use Rattle.format.specs.Records.{count_at, base_at, width_of, width_fault, cube_at, cubes_at, difference_at}
use Rattle.format.specs.Files.{fault_number, fault_offset, offsets, read_file}
use Rattle.format.specs.Calls.{unseen, view, Step, start_of, read_on}
use Rattle.format.specs.Meaning.{cubes_of, Seen, Onward}
use Rattle.format.proofs.Reached.{each, past}
use Rattle.format.proofs.Recording.{Record, each-cube, cuts-count}
use Rattle.format.proofs.Filing.{Listed, ended, listed, file-of}
use Rattle.format.proofs.Refusals.{width-refusal, record-refusal, file-refusal}

-- by index
pub map_at : {A : Type 0} (f : ℕ → A) (os : List ℕ) (d : ℕ) (x : A) → d < length os → get_or (map f os) d x ≡ f (get_or os d 0)
map_at f [] d x h = absurd (omega arith)
map_at f (o ∷ os) zero x h = refl
map_at f (o ∷ os) (suc d) x h = map_at f os d x (omega arith)

cube-at : (w : ℕ) (s : List ℕ) (k i at : ℕ) → i < k → get_or (cubes_at w s at k) i [] ≡ cube_at w s (at + i * cube_len w)
unfolding cubes_at
cube-at w s zero i at h = absurd (omega arith)
cube-at w s (suc k) zero at h = let z : at + 0 * cube_len w ≡ at = omega arith in rw z
cube-at w s (suc k) (suc i) at h =
    let z : at + suc i * cube_len w ≡ at + cube_len w + i * cube_len w = omega arith in
    rw z (cube-at w s k i (at + cube_len w) (omega arith))

pub listed_at : {w : ℕ} {s : List ℕ} {at n : ℕ} {os : List ℕ} → Listed w s at n os → (d : ℕ) → d < length os → (m : ℕ) × Record false w m s (get_or os d 0)
listed_at (ended h) d l = absurd (omega arith)
listed_at (listed {n = n} r rest) zero l = (n, r)
listed_at (listed r rest) (suc d) l = listed_at rest d (omega arith)

-- views
seen : (s : List ℕ) (d i : ℕ)
    → let at = get_or (offsets (read_file s)) d 0 in
    d < length (offsets (read_file s)) → i ≤ count_at s at → (n : ℕ) × Record false (width_of s) n s at
    → Seen s d i (record { answer = yes; start = base_at s at + i * cube_len (width_of s); size = cube_len (width_of s) })
unfolding cube_at cubes_at
seen s d i h l (n, r) =
    let w = width_of s in
    let at = get_or (offsets (read_file s)) d 0 in
    let this = map_at (difference_at w s) (offsets (read_file s)) d (less [] []) h in
    record {
      difference = simp length-map h;
      index = rw (this, cuts-count r) l;
      size = refl;
      inside = omega (arith, mul-le-mul_right {m = suc i} {n = count_at s at + 1} (cube_len w) (omega arith));
      sound = each-cube r i l;
      cube = sym (ap (λ (x : Difference). get_or (cubes_of x) i []) this ∙ cube-at w s (suc (count_at s at)) i (base_at s at) (omega arith));
    }

pub view-told : (s : List ℕ) (d i : ℕ) → (view s d i).answer.number ≡ 1 → Seen s d i (view s d i)
unfolding view
view-told s d i e =
    let at = get_or (offsets (read_file s)) d 0 in
    let k = row (isnt (fault_number (read_file s)) 0) (unseen (fault (fault_number (read_file s)) 1 (fault_offset (read_file s))))
    (row (below (length (offsets (read_file s))) (d + 1)) (unseen (refused 23))
    (row (below (count_at s at) i) (unseen (refused 23))
    (last (record { answer = yes; start = base_at s at + i * cube_len (width_of s); size = cube_len (width_of s) })))) in
    let p = past (λ v. v.answer.number < 10) k (omega (arith, file-refusal s)) (omega arith) in
    let r = listed_at (file-of s p.0).list d (omega arith) in
    rw p.1.1.1 (seen s d i (omega arith) p.1.1.0 r)

-- reading on
module _ (s : List ℕ) (place : ℕ) where
  pub read_on-record : (read_on s place).answer.number ≡ 1 → Onward s place (read_on s place)
  unfolding read_on
  read_on-record =
      each (λ (x : Step). x.answer.number ≡ 1 → Onward s place x) _
      (omega (arith, width-refusal s, record-refusal (width_of s) s false 0 (start_of s place)))

  pub read_on-end : (read_on s place).answer.number ≡ 2 → (width_fault s ≡ 0) × (start_of s place ≡ length s)
  unfolding read_on
  read_on-end =
      each (λ (x : Step). x.answer.number ≡ 2 → (width_fault s ≡ 0) × (start_of s place ≡ length s)) _
      (omega (arith, width-refusal s, record-refusal (width_of s) s false 0 (start_of s place)))

  pub read_on-stays : ((read_on s place).answer.number ≡ 1 → ⊥) → (read_on s place).place ≡ place
  unfolding read_on
  read_on-stays = each (λ (x : Step). (x.answer.number ≡ 1 → ⊥) → x.place ≡ place) _ (omega arith)
