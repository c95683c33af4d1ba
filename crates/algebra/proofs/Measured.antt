-- The table of a result that is to be written, from what was measured of it.
--   nothing-back       a buffer of which no byte was lent
--   result-few, result-size    its differences and its bytes, where it is not refused
--   permits-long, permits-many, permits-short, permits-written    what is permitted at the four ends of a result that is to be written
use Prim.Native.Nat.{ℕ, ◌+◌, ◌-◌, ◌*◌, ◌≤◌, ◌<◌}
use native.Mathlib.Omega.{arith}
use mathlib.Core.Path.{◌≡◌, refl, ◌∙◌}
use mathlib.Core.List.{List, [], ◌∷◌, ◌++◌}
use mathlib.Core.Bool.{true}
use lib.ListN.{length, take, drop, length-take}
use lib.Seq.{take_all}
use borrow.Rule.Slice.PartMut.{put_mid}
use Rattle.std.proofs.Common.{Result, Err}
use Rattle.model.specs.Difference.{Region}
use Rattle.answer.specs.Answer.{refused, wrote}
use Rattle.answer.specs.declared.refusal.Refusal.{Refusal}
use Rattle.answer.specs.declared.refusal.Refusal.TheVariants.{Cuts}
use Rattle.format.specs.Rows.{outcome}
use Rattle.format.specs.Limits.{most_differences}
use Rattle.format.specs.Bytes.{cube_len}
use Rattle.format.specs.Records.{width_bytes, differences_bytes}
use Rattle.format.specs.Told.{silent, any_long, Permitted}
use Rattle.format.proofs.Reached.{reached}
use Rattle.cube.specs.Lay.{put}
use Rattle.cube.proofs.Laying.{put-fits, behind-back}
use Rattle.algebra.specs.Totals.{Counts}
use Rattle.algebra.specs.Results.{whole_rows, answer_of}
use Rattle.algebra.specs.declared.totals.Totals.{Totals}

nothing-back : (ys old : List ℕ) → length ys ≡ 0 → ys ++ old ≡ old
nothing-back [] old e = refl
nothing-back (y ∷ ys) old e = absurd (omega arith)

-- a result r, and a buffer of which no byte was lent
module _ (w : ℕ) (out rest : List ℕ) (none : length rest ≡ 0) (r : Region) where
  pub permits-long : (x : Result ℕ Refusal) (e : Refusal) → x ≡ Err e → e ≡ Cuts → any_long r ≡ true
      → Permitted (outcome (whole_rows w r (length out))) out (answer_of x) (rest ++ out)
  permits-long x e i c l =
      rw (i, c, ← reached 0 (whole_rows w r (length out)) l) (record { answer = refl; buffer = nothing-back rest out none })

  module _ {old new : List ℕ} {t : Totals} (c : Counts (cube_len w) r old new t) where
    pub permits-many : most_differences < t.count → Permitted (outcome (whole_rows w r (length out))) out (refused 19) (rest ++ out)
    permits-many h =
        let many : silent (refused 19) ≡ outcome (whole_rows w r (length out)) =
        reached 1 (whole_rows w r (length out)) (c.short, omega (arith, simp length-take at c.count)) in
        rw (← many) (record { answer = refl; buffer = nothing-back rest out none })

    module _ (few : t.count ≤ most_differences) where
      result-few : length r ≤ most_differences
      result-few = omega (arith, simp length-take at c.count)

      result-size : t.size ≡ length (differences_bytes (4 * cube_len w) r)
      result-size = rw (take_all (most_differences + 1) r (omega (arith, result-few))) at c.size

      pub permits-short : length (rest ++ out) < t.size + length (width_bytes w)
          → Permitted (outcome (whole_rows w r (length out))) out (refused 22) (rest ++ out)
      permits-short h =
          let k = rw (nothing-back rest out none) at h in
          let room : silent (refused 22) ≡ outcome (whole_rows w r (length out)) =
          reached 2 (whole_rows w r (length out)) (c.short, (result-few, omega (arith, result-size, k))) in
          rw (← room) (record { answer = refl; buffer = nothing-back rest out none })

      -- it fits, and is counted once more over the buffer behind kind 1
      pub permits-written : t.size + length (width_bytes w) ≤ length (rest ++ out) → (mid ys : List ℕ) (n : ℕ) {u : Totals}
          → mid ≡ put (rest ++ out) 0 (width_bytes w) → n ≡ length mid - length (width_bytes w) → Counts (cube_len w) r
          (take n (drop (length (width_bytes w)) mid)) ys u
          → Permitted (outcome (whole_rows w r (length out))) out (wrote (t.size + length (width_bytes w))) (put_mid (length (width_bytes w)) n mid ys)
      permits-written h mid ys n m k again =
          let f = rw (nothing-back rest out none) at h in
          let front = rw (nothing-back rest out none) at m ∙ put-fits out 0 (width_bytes w) (omega (arith, f)) in
          let e : t.size + length (width_bytes w) ≡ length (width_bytes w ++ differences_bytes (4 * cube_len w) r) = omega (arith, result-size) in
          let told : record { answer = wrote (t.size + length (width_bytes w)); bytes = width_bytes w ++ differences_bytes (4 * cube_len w) r }
          ≡ outcome (whole_rows w r (length out)) =
          rw e (reached 3 (whole_rows w r (length out)) (c.short, (result-few, (omega (arith, result-size, f), tt)))) in
          rw (← told)
          (record {
            answer = refl;
            buffer = behind-back out (width_bytes w) (differences_bytes (4 * cube_len w) r) ys mid (length (width_bytes w)) n refl front k
                (omega (arith, result-size, f)) (λ l. again.written result-few l);
          })
