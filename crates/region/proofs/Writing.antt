-- Records, as they are written.
--   all-bytes      a list whose every element is below 256 holds bytes
--   front_length   how long the front is
--   record-bytes   the front before the cubes makes the bytes of the difference that they hold
--   limited-out    above the limits nothing else is looked at
--   cubes-few, record-len, record-longest   within the limits: how many bytes the cubes take at most, and the record
--   front-put, record-put     what a buffer holds when the front, or the record, was put and fits
--   record-few, record-short, record-done   the ends of the writing: fewer cubes, no room, and both parts put
--   record-length  how long the bytes of the difference are that cubes in a row hold
use Prim.Native.Nat.{ℕ, zero, suc, ◌+◌, ◌-◌, ◌*◌, ◌≤◌, ◌<◌}
use native.Mathlib.Nat.{mul-le-mul, zero-add}
use native.Mathlib.Omega.{arith}
use mathlib.Core.Path.{◌≡◌, refl, sym, ap, ◌∙◌}
use mathlib.Core.List.{List, [], ◌∷◌, append-nil}
use mathlib.Core.Logic.{◌⊎◌}
use lib.ListN.{length, get_or, take, drop}
use lib.Seq.{length-take-le, take-add, drop-drop}
use Rattle.format.specs.Limits.{widest_cube, most_cuts}
use Rattle.format.specs.Bytes.{Bytes, cube_len, codes, cube_bytes, write_cube}
use Rattle.format.specs.Records.{front_len, cubes_bytes, front_bytes, difference_bytes}
use Rattle.format.specs.Told.{over}
use Rattle.format.proofs.Coding.{length-codes, write-padded, write_bytes, codes-tell}
use Rattle.format.specs.Rows.{Rows, outcome}
use Rattle.format.proofs.Reached.{reached, each}
use Rattle.format.proofs.Recording.{bytes_take, bytes_drop}
use Rattle.cube.specs.Lay.{put}
use Rattle.cube.specs.Whole.{cube_of, whole_at, wholes_at}
use Rattle.cube.proofs.Laying.{put-fits, put-long, over-more, length_over}
use Rattle.cube.proofs.Wholes.{row-length}
use Rattle.region.specs.Writing.{limited, len_rows, record_len, longest_record, record_bytes, row_difference, front_rows, put_front, put_rows, put_record}

pub all-bytes : (s : List ℕ) → ((i : ℕ) → get_or s i 0 < 256) → Bytes s
all-bytes [] h = tt
all-bytes (b ∷ s) h = (h 0, all-bytes s (λ i. h (suc i)))

write-codes : (b : List ℕ) → Bytes b → write_cube (codes b) ≡ b
write-codes b h =
    let l : cube_len (length (codes b)) ≡ length b = omega (arith, length-codes b) in
    let e : 4 * length b - length (codes b) ≡ 0 = omega (arith, length-codes b) in
    rw l
    (codes-tell (cube_bytes (length b) (codes b)) b (write_bytes (length b) (codes b)) h
    (write-padded (length b) (codes b) (omega (arith, length-codes b)) ∙ rw e (append-nil (codes b))))

row-bytes : (q : ℕ) (s : List ℕ) (at n : ℕ) → Bytes s → cubes_bytes (wholes_at q s at n) ≡ take (n * q) (drop at s)
unfolding wholes_at whole_at cube_of
row-bytes q s at zero h = let e : 0 * q ≡ 0 = omega arith in rw e
row-bytes q s at (suc n) h =
    let e : suc n * q ≡ q + n * q = omega arith in
    rw (e, take-add, drop-drop, write-codes (take q (drop at s)) (bytes_take q (drop at s) (bytes_drop at s h)), row-bytes q s (at + q) n h)

pub front_length : (k q : ℕ) → length (front_bytes k q) ≡ front_len k
unfolding front_len front_bytes
front_length k q = refl

pub record-bytes : (k q : ℕ) (cubes : List ℕ) → Bytes cubes → record_bytes cubes k q ≡ difference_bytes (4 * q) (row_difference k q cubes)
unfolding difference_bytes
record-bytes k q cubes h =
    let e : cube_len (4 * q) ≡ q = omega arith in
    let z : 0 + q ≡ q = zero-add q in
    let t : cubes_bytes (whole_at q cubes 0 ∷ wholes_at q cubes (0 + q) k) ≡ take (suc k * q) cubes = unfold wholes_at in row-bytes q cubes 0 (suc k) h in
    let r = rw z at t in
    let d : (k + 1) * q ≡ suc k * q = omega arith in
    rw (row-length q cubes q k, e, r, d)

pub limited-out : {A : Type 0} (k q : ℕ) (x : A) (rest : Rows A) → (most_cuts < k) ⊎ (widest_cube < q) → x ≡ outcome (limited k q x rest)
limited-out k q x rest h =
    each (λ y. x ≡ y) (limited k q x rest) (λ _. refl, λ f. (λ _. refl, λ g. let out : ⊥ = omega (arith, h) in absurd out))

module _ (k q : ℕ) (few : k ≤ most_cuts) (short : q ≤ widest_cube) where
  pub cubes-few : (k + 1) * q ≤ (most_cuts + 1) * widest_cube
  cubes-few = mul-le-mul {n₂ = most_cuts + 1} {m₂ = widest_cube} (omega arith) short

  pub record-len : record_len k q ≡ front_len k + (k + 1) * q
  unfolding record_len
  record-len = sym (reached 2 (len_rows k q) (few, (short, tt)))

  pub record-longest : record_len k q ≤ longest_record
  unfolding front_len
  record-longest = rw record-len (omega (arith, cubes-few))

  pub front-put : (old : List ℕ) → front_len k ≤ length old → put_front old k q ≡ over old (front_bytes k q)
  unfolding put_front front_len front_bytes
  front-put old h = sym (reached 2 (front_rows old k q) (few, (short, tt))) ∙ put-fits old 0 (front_bytes k q) (omega arith)

  module _ (old cubes : List ℕ) where
    pub record-few : length cubes < (k + 1) * q → old ≡ put_record old cubes k q
    unfolding put_record
    record-few h = reached 2 (put_rows old cubes k q) (few, (short, h))

    module _ (enough : (k + 1) * q ≤ length cubes) where
      size : length (record_bytes cubes k q) ≡ front_len k + (k + 1) * q
      unfolding front_len front_bytes
      size = let l = length-take-le ((k + 1) * q) cubes enough in omega (arith, l)

      whole : put old 0 (record_bytes cubes k q) ≡ put_record old cubes k q
      unfolding put_record
      whole = reached 3 (put_rows old cubes k q) (few, (short, (enough, tt)))

      pub record-short : length old < front_len k + (k + 1) * q → old ≡ put_record old cubes k q
      record-short h = sym (put-long old 0 (record_bytes cubes k q) (omega (arith, size))) ∙ whole

      module _ (room : front_len k + (k + 1) * q ≤ length old) where
        pub record-done : (mid new : List ℕ) → mid ≡ put_front old k q → new ≡ put mid (front_len k) (take ((k + 1) * q) cubes)
            → new ≡ put_record old cubes k q
        unfolding front_len front_bytes
        record-done mid new e f =
            let part = take ((k + 1) * q) cubes in
            let l = length-take-le ((k + 1) * q) cubes enough in
            let m : mid ≡ over old (front_bytes k q) = e ∙ front-put old (omega arith) in
            let s : length mid ≡ length old = ap length m ∙ length_over old (front_bytes k q) (omega arith) in
            f ∙ put-fits mid (front_len k) part (omega (arith, l, s))
            ∙ rw m (over-more old (front_bytes k q) part (front_len k) (omega arith))
            ∙ sym (put-fits old 0 (record_bytes cubes k q) (omega (arith, size)))
            ∙ whole

        pub record-put : Bytes cubes → put_record old cubes k q ≡ over old (difference_bytes (4 * q) (row_difference k q cubes))
        record-put b = sym whole ∙ put-fits old 0 (record_bytes cubes k q) (omega (arith, size)) ∙ ap (over old) (record-bytes k q cubes b)

  pub record-length : (cubes : List ℕ) → Bytes cubes → (k + 1) * q ≤ length cubes
      → length (difference_bytes (4 * q) (row_difference k q cubes)) ≡ record_len k q
  record-length cubes b h = ap length (sym (record-bytes k q cubes b)) ∙ size [] cubes h ∙ sym record-len
