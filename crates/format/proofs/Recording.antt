-- Kind 2 records: what an accepted one holds, and that reading and writing undo one another.
--   drop_past                what stands behind a front that stands at an offset
--   u16-same                 a number in two bytes is written again with the same bytes
--   bytes_take, bytes_drop, bytes-append    parts of bytes, and bytes behind bytes, are bytes
--   length-written, bytes-written    how long the record of a difference is, and that it is bytes
--   length-read, kind-read, count-read, next-read, difference-read, record-accepted
--                            of a record that was written and stands at an offset: its parts, its end, its difference, and that it is accepted
--   alone-difference, alone-accepted    of a record written and lent by itself: its difference, and that it is accepted
--   Record, record_of        the facts about an accepted record, and that an accepted record has them
--   each-cube                every cube of an accepted record is accepted; 0 is the base
--   cuts-count, good-read    its difference has as many cuts as its count says, and is Good
--   bytes_read               its difference is written again with the same bytes
use Prim.Native.Nat.{ℕ, zero, suc, ◌+◌, ◌-◌, ◌*◌, ◌/◌, ◌%◌, ◌≤◌, ◌<◌}
use native.Mathlib.Nat.{add-zero, mul-le-mul}
use native.Mathlib.Numerals.{add-one}
use native.Mathlib.Omega.{arith}
use mathlib.Core.Path.{◌≡◌, refl, sym, ap, ◌∙◌}
use mathlib.Core.List.{List, [], ◌∷◌, ◌++◌, append_assoc, append-nil}
use mathlib.Core.Bool.{Bool, true, cond}
use lib.Dec.{eqb, eqb-suc-zero}
use lib.ListN.{length, get_or, take, drop, length-append, length-drop}
use lib.Seq.{length-take-le, take_at, drop_at, drop-cons, drop-drop, get_or-drop, take-add}
use Rattle.model.specs.Cube.{Cube}
use Rattle.model.specs.Difference.{Difference, less}
use Rattle.model.specs.Sized.{All, Sized, Good}
use Rattle.format.specs.Limits.{widest, most_cuts, most_differences, difference_kind}
use Rattle.format.specs.Bytes.{Bytes, cube_len, read_cube, write_cube, cube_fault}
use Rattle.format.specs.Records.{u16_at, length_at, kind_at, next_at, count_at, front_len, base_at, difference_len, cube_at, cubes_at, difference_at, cubes_fault, bytes_after, difference_rows, difference_fault, u16_bytes, cubes_bytes, front_bytes, difference_bytes}
use Rattle.format.proofs.Reached.{reached, clean}
use Rattle.format.proofs.Coding.{fault-solid, read_length, read-write, write-length, write_bytes, write-accepted, write_read}

-- what stands at an offset
pub drop_past : (s front rest : List ℕ) (at n : ℕ) → drop at s ≡ front ++ rest → length front ≡ n → drop (at + n) s ≡ rest
drop_past s front rest at n e l = sym (drop-drop n at s) ∙ rw e (drop_at front rest n l)

byte-read : (s rest : List ℕ) (at b : ℕ) → drop at s ≡ b ∷ rest → get_or s at 0 ≡ b
byte-read s rest at b e = rw (← add-zero at, ← get_or-drop, e)

u16-read : (s rest : List ℕ) (at n : ℕ) → n < 65536 → drop at s ≡ u16_bytes n ++ rest → u16_at s at ≡ n
u16-read s rest at n h e =
    let a : get_or s at 0 ≡ n % 256 = byte-read s (n / 256 % 256 ∷ rest) at (n % 256) e in
    let f = drop_past s (n % 256 ∷ []) (n / 256 % 256 ∷ rest) at 1 e refl in
    let b : get_or s (at + 1) 0 ≡ n / 256 % 256 = byte-read s rest (at + 1) (n / 256 % 256) f in
    omega arith

next-byte : (s : List ℕ) (i j : ℕ) → i < length s → suc i ≡ j → drop i s ≡ get_or s i 0 ∷ drop j s
next-byte s i j h e = rw (← e) (drop-cons s i 0 h)

-- bytes
pub bytes_take : (n : ℕ) (bs : List ℕ) → Bytes bs → Bytes (take n bs)
bytes_take zero bs h = tt
bytes_take (suc n) [] h = tt
bytes_take (suc n) (b ∷ bs) h = (h.0, bytes_take n bs h.1)

pub bytes_drop : (n : ℕ) (bs : List ℕ) → Bytes bs → Bytes (drop n bs)
bytes_drop zero bs h = h
bytes_drop (suc n) [] h = tt
bytes_drop (suc n) (b ∷ bs) h = bytes_drop n bs h.1

pub bytes-append : (a b : List ℕ) → Bytes a → Bytes b → Bytes (a ++ b)
bytes-append [] b h k = k
bytes-append (x ∷ a) b h k = (h.0, bytes-append a b h.1 k)

byte_at : (bs : List ℕ) (i : ℕ) → Bytes bs → get_or bs i 0 < 256
byte_at [] i h = omega arith
byte_at (b ∷ bs) zero h = h.0
byte_at (b ∷ bs) (suc i) h = byte_at bs i h.1

high_byte : (a b : ℕ) → a < 256 → b < 256 → (a + 256 * b) / 256 % 256 ≡ b
high_byte a b h k = let q : (a + 256 * b) / 256 ≡ b = omega arith in rw q (omega arith)

pub u16-same : (s : List ℕ) (at : ℕ) → Bytes s → at + 2 ≤ length s → drop at s ≡ u16_bytes (u16_at s at) ++ drop (at + 2) s
u16-same s at b h =
    let l = byte_at s at b in
    let m = byte_at s (at + 1) b in
    let low : u16_at s at % 256 ≡ get_or s at 0 = omega arith in
    let high = high_byte (get_or s at 0) (get_or s (at + 1) 0) l m in
    rw (next-byte s at (at + 1) (omega arith) (omega arith), next-byte s (at + 1) (at + 2) (omega arith) (omega arith), low, high)

-- cubes, written
writes-long : (w : ℕ) (c : Cube) → Sized w c → length (write_cube c) ≡ cube_len w
writes-long w c g = write-length (cube_len (length c)) c ∙ ap cube_len g.wide

cubes-length : (w : ℕ) (cs : List Cube) → All (Sized w) cs → length (cubes_bytes cs) ≡ length cs * cube_len w
cubes-length w [] g = omega arith
cubes-length w (c ∷ cs) g = simp length-append (omega (arith, cubes-length w cs g.1, writes-long w c g.0))

cubes-bytes : (cs : List Cube) → Bytes (cubes_bytes cs)
cubes-bytes [] = tt
cubes-bytes (c ∷ cs) = bytes-append (write_cube c) (cubes_bytes cs) (write_bytes (cube_len (length c)) c) (cubes-bytes cs)

module _ (w : ℕ) (s : List ℕ) where
  cube-written : (c : Cube) (rest : List ℕ) (at : ℕ) → Sized w c → drop at s ≡ write_cube c ++ rest → take (cube_len w) (drop at s) ≡ write_cube c
  cube-written c rest at g e = rw e (take_at (write_cube c) rest (cube_len w) (writes-long w c g))

  cubes-written : (cs : List Cube) (rest : List ℕ) (at : ℕ) → All (Sized w) cs → drop at s ≡ cubes_bytes cs ++ rest
      → (cubes_at w s at (length cs) ≡ cs) × (cubes_fault w s at (length cs) ≡ 0)
  unfolding cubes_at cube_at cubes_fault
  cubes-written [] rest at g e = (refl, refl)
  cubes-written (c ∷ cs) rest at g e =
      let f : drop at s ≡ write_cube c ++ (cubes_bytes cs ++ rest) = e ∙ append_assoc (write_cube c) (cubes_bytes cs) rest in
      let behind = drop_past s (write_cube c) (cubes_bytes cs ++ rest) at (cube_len w) f (writes-long w c g.0) in
      let later = cubes-written cs rest (at + cube_len w) g.1 behind in
      let read : read_cube w (write_cube c) ≡ c = rw (← g.0.wide) (read-write c) in
      let sound : cube_fault w (write_cube c) ≡ 0 = rw (← g.0.wide) (write-accepted c g.0.filled) in
      rw (cube-written c (cubes_bytes cs ++ rest) at g.0 f, read, sound, later.0, later.1) (refl, refl)

-- a record, written
pub length-written : (w : ℕ) (d : Difference) → Good w d → length (difference_bytes w d) ≡ 2 + difference_len (length d.cuts) (cube_len w)
unfolding difference_bytes front_bytes
length-written w d g = omega (arith, cubes-length w (d.base ∷ d.cuts) (g.base, g.cuts))

pub bytes-written : (w : ℕ) (d : Difference) → length d.cuts ≤ most_cuts → Bytes (difference_bytes w d)
unfolding difference_bytes front_bytes
bytes-written w d few = (omega arith, (omega arith, (omega arith, (omega arith, (omega arith, cubes-bytes (d.base ∷ d.cuts))))))

module _ (w : ℕ) (d : Difference) (s post : List ℕ) (at : ℕ) (g : Good w d) (few : length d.cuts ≤ most_cuts) (narrow : w ≤ widest)
    (e : drop at s ≡ difference_bytes w d ++ post) where
  short : difference_len (length d.cuts) (cube_len w) < 65536
  short =
      let m = mul-le-mul {n₁ = length d.cuts + 1} {m₁ = cube_len w} {n₂ = most_cuts + 1} {m₂ = cube_len widest} (omega arith) (omega arith) in
      omega arith

  abbrev k : ℕ
  k = length d.cuts

  pub length-read : length_at s at ≡ difference_len k (cube_len w)
  unfolding difference_bytes front_bytes
  length-read = u16-read s _ at (difference_len k (cube_len w)) short e

  pub kind-read : kind_at s at ≡ difference_kind
  unfolding difference_bytes front_bytes
  kind-read = u16-read s _ (at + 2) difference_kind (omega arith) (drop_past s (u16_bytes (difference_len k (cube_len w))) _ at 2 e refl)

  pub count-read : count_at s at ≡ k
  unfolding difference_bytes front_bytes count_at
  count-read = byte-read s _ (at + 4) k (drop_past s (u16_bytes (difference_len k (cube_len w)) ++ u16_bytes difference_kind) _ at 4 e refl)

  pub next-read : next_at s at ≡ at + length (difference_bytes w d)
  next-read = omega (arith, length-read, length-written w d g)

  cubes : drop (base_at s at) s ≡ cubes_bytes (d.base ∷ d.cuts) ++ post
  unfolding difference_bytes front_bytes base_at front_len
  cubes = drop_past s (u16_bytes (difference_len k (cube_len w)) ++ (u16_bytes difference_kind ++ (k ∷ []))) (cubes_bytes (d.base ∷ d.cuts) ++ post) at 5 e refl

  both : (cubes_at w s (base_at s at) (suc k) ≡ d.base ∷ d.cuts) × (cubes_fault w s (base_at s at) (suc k) ≡ 0)
  both = cubes-written w s (d.base ∷ d.cuts) post (base_at s at) (g.base, g.cuts) cubes

  pub difference-read : difference_at w s at ≡ d
  unfolding cubes_at
  difference-read =
      let r = both.0 in
      let b : cube_at w s (base_at s at) ≡ d.base = cc in
      let c : cubes_at w s (base_at s at + cube_len w) k ≡ d.cuts = cc in
      rw count-read (λ i. less (b i) (c i))

  pub record-accepted : (alone : Bool) (n : ℕ) → n < most_differences → bytes_after alone s at ≡ 0 → difference_fault alone w n s at ≡ 0
  unfolding difference_fault
  record-accepted alone n h a =
      let c : cubes_fault w s (base_at s at) (count_at s at + 1) ≡ 0 = rw (count-read, add-one) both.1 in
      let l : length_at s at ≡ difference_len (count_at s at) (cube_len w) = rw count-read length-read in
      let m : length (difference_bytes w d) + length post ≡ length s - at = simp (length-append, length-drop) at (sym (ap length e)) in
      sym (reached 9 (difference_rows alone w n s at) (omega (arith, length-read, kind-read, count-read, length-written w d g))) ∙ c

-- a record lent by itself beside its width
module _ (w : ℕ) (d : Difference) (g : Good w d) (few : length d.cuts ≤ most_cuts) (narrow : w ≤ widest) where
  whole : difference_bytes w d ≡ difference_bytes w d ++ []
  whole = sym (append-nil (difference_bytes w d))

  pub alone-difference : difference_at w (difference_bytes w d) 0 ≡ d
  alone-difference = difference-read w d (difference_bytes w d) [] 0 g few narrow whole

  pub alone-accepted : difference_fault true w 0 (difference_bytes w d) 0 ≡ 0
  alone-accepted =
      let n = next-read w d (difference_bytes w d) [] 0 g few narrow whole in
      record-accepted w d (difference_bytes w d) [] 0 g few narrow whole true 0 (omega arith) (omega arith)

-- an accepted record
pub record Record (alone : Bool) (w n : ℕ) (s : List ℕ) (at : ℕ) : Type 0 where
  pub begun : at + 2 ≤ length s
  pub within : next_at s at ≤ length s
  pub size : length_at s at ≡ difference_len (count_at s at) (cube_len w)
  pub kind : kind_at s at ≡ difference_kind
  pub few : count_at s at ≤ most_cuts
  pub room : n < most_differences
  pub next : next_at s at ≡ base_at s at + (count_at s at + 1) * cube_len w
  pub lone : bytes_after alone s at ≡ 0
  pub cubes : cubes_fault w s (base_at s at) (count_at s at + 1) ≡ 0

pub record_of : (alone : Bool) (w n : ℕ) (s : List ℕ) (at : ℕ) → difference_fault alone w n s at ≡ 0 → Record alone w n s at
unfolding difference_fault base_at front_len
record_of alone w n s at e =
    let c = clean (difference_rows alone w n s at) (omega arith) e in
    omega arith

-- the cubes of an accepted record
none_first : (first later : ℕ) → cond (eqb first 0) later first ≡ 0 → (first ≡ 0) × (later ≡ 0)
none_first zero later e = (refl, e)
none_first (suc f) later e = absurd (let z : suc f ≡ 0 = rw eqb-suc-zero at e in omega arith)

module _ (w : ℕ) (s : List ℕ) where
  stretch : (at : ℕ) → at + cube_len w ≤ length s → length (take (cube_len w) (drop at s)) ≡ cube_len w
  stretch at h = length-take-le (cube_len w) (drop at s) (simp length-drop (omega arith))

  first-cube : (k at : ℕ) → cubes_fault w s at (suc k) ≡ 0 → (cube_fault w (take (cube_len w) (drop at s)) ≡ 0) × (cubes_fault w s (at + cube_len w) k ≡ 0)
  unfolding cubes_fault
  first-cube k at e = none_first _ _ e

  cubes-accepted : (k i at : ℕ) → i < k → cubes_fault w s at k ≡ 0 → cube_fault w (take (cube_len w) (drop (at + i * cube_len w) s)) ≡ 0
  cubes-accepted zero i at h e = absurd (omega arith)
  cubes-accepted (suc k) zero at h e = let z : at + 0 * cube_len w ≡ at = omega arith in rw z (first-cube k at e).0
  cubes-accepted (suc k) (suc i) at h e =
      let z : at + suc i * cube_len w ≡ at + cube_len w + i * cube_len w = omega arith in
      rw z (cubes-accepted k i (at + cube_len w) (omega arith) (first-cube k at e).1)

  cubes-good : (k at : ℕ) → at + k * cube_len w ≤ length s → cubes_fault w s at k ≡ 0 → All (Sized w) (cubes_at w s at k)
  unfolding cubes_at cube_at
  cubes-good zero at h e = tt
  cubes-good (suc k) at h e =
      let bs = take (cube_len w) (drop at s) in
      let f = first-cube k at e in (
        record { wide = read_length w bs (stretch at (omega arith)); filled = fault-solid w bs f.0 },
        cubes-good k (at + cube_len w) (omega arith) f.1,
      )

  cubes-same : (k at : ℕ) → Bytes s → at + k * cube_len w ≤ length s → cubes_fault w s at k ≡ 0
      → cubes_bytes (cubes_at w s at k) ≡ take (k * cube_len w) (drop at s)
  unfolding cubes_at cube_at
  cubes-same zero at b l e = let z : 0 * cube_len w ≡ 0 = omega arith in rw z
  cubes-same (suc k) at b l e =
      let bs = take (cube_len w) (drop at s) in
      let f = first-cube k at e in
      let z : suc k * cube_len w ≡ cube_len w + k * cube_len w = omega arith in
      let h = bytes_take (cube_len w) (drop at s) (bytes_drop at s b) in
      let this : write_cube (read_cube w bs) ≡ bs = write_read w bs (stretch at (omega arith)) h f.0 in
      rw (z, take-add, drop-drop, this, cubes-same k (at + cube_len w) b (omega arith) f.1)

  cubes-count : (k at : ℕ) → length (cubes_at w s at k) ≡ k
  unfolding cubes_at
  cubes-count zero at = refl
  cubes-count (suc k) at = ap suc (cubes-count k (at + cube_len w))

module _ {alone : Bool} {w n : ℕ} {s : List ℕ} {at : ℕ} (r : Record alone w n s at) where
  pub each-cube : (i : ℕ) → i ≤ count_at s at → cube_fault w (take (cube_len w) (drop (base_at s at + i * cube_len w) s)) ≡ 0
  each-cube i h = cubes-accepted w s (count_at s at + 1) i (base_at s at) (omega arith) r.cubes

  pub cuts-count : length (difference_at w s at).cuts ≡ count_at s at
  cuts-count = cubes-count w s (count_at s at) (base_at s at + cube_len w)

  pub good-read : Good w (difference_at w s at)
  unfolding cubes_at
  good-read =
      let g = cubes-good w s (suc (count_at s at)) (base_at s at) (omega arith) (rw add-one at r.cubes) in
      record { base = g.0; cuts = g.1 }

  front : Bytes s → drop at s ≡ front_bytes (count_at s at) (cube_len w) ++ drop (base_at s at) s
  unfolding front_bytes count_at base_at front_len
  front b =
      let z : at + 2 + 2 ≡ at + 4 = omega arith in
      let n = r.next in
      rw (u16-same s at b (omega arith), u16-same s (at + 2) b (omega arith), z, next-byte s (at + 4) (at + 5) (omega arith) (omega arith), r.size, r.kind)

  pub bytes_read : Bytes s → difference_bytes w (difference_at w s at) ≡ take (2 + length_at s at) (drop at s)
  unfolding difference_bytes cubes_at front_bytes
  bytes_read b =
      let k = count_at s at in
      let all = cubes-same w s (suc k) (base_at s at) b (omega arith) (rw add-one at r.cubes) in
      let l : 2 + length_at s at ≡ suc (suc (suc (suc (suc (suc k * cube_len w))))) = omega arith in
      rw (l, front b, cuts-count, all)
