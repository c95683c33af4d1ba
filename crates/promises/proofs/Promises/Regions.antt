-- What is promised of the calls that write region files: `region_tidy`, `diff_intersect`, `region_intersect`, `diff_less` and `region_less`. Beside the
-- lines that the page has of every call:
--   region_tidy-means, diff_intersect-means, region_intersect-means, diff_less-means, region_less-means    which headers are in the region written
--   region_tidy-written, diff_intersect-written, region_intersect-written, diff_less-written, region_less-written    the bytes written are an accepted
--                            file with the width and the tidied region of the operation
--   tidy-same-bytes          a tidy file is written again with the same bytes
--   tidied-same-bytes        so is what tidying wrote
use Prim.Native.Nat.{ℕ, ◌≤◌}
use native.Mathlib.Omega.{arith}
use mathlib.Core.Path.{◌≡◌}
use mathlib.Core.List.{List}
use mathlib.Core.Bool.{not, ◌&&◌}
use lib.ListN.{length}
use Rattle.model.specs.Cube.{Header}
use Rattle.model.specs.Difference.{Region, in_difference, in_region}
use Rattle.model.specs.Tidy.{tidy_region}
use Rattle.model.specs.Algebra.{intersection, intersections, subtraction, subtractions}
use Rattle.format.specs.Rows.{outcome}
use Rattle.format.specs.Bytes.{Bytes}
use Rattle.format.specs.Records.{width_of, difference_at, file_bytes}
use Rattle.format.specs.Files.{region_in}
use Rattle.format.specs.Told.{writing_region}
use Rattle.format.specs.Calls.{region_tidy, diff_intersect, region_intersect, diff_less, region_less}
use Rattle.format.specs.Meaning.{Lent, Written}
use Rattle.format.proofs.Refusals.{file-refusal}
use Rattle.format.proofs.Filing.{file-of}
use Rattle.format.proofs.Rewriting
use Rattle.algebra.proofs.region_tidy as region_tidy-call
use Rattle.algebra.proofs.diff_intersect as diff_intersect-call
use Rattle.algebra.proofs.region_intersect as region_intersect-call
use Rattle.algebra.proofs.diff_less as diff_less-call
use Rattle.algebra.proofs.region_less as region_less-call
pub use Rattle.algebra.proofs.region_tidy.Met.{met as region_tidy-met}
pub use Rattle.algebra.proofs.diff_intersect.Met.{met as diff_intersect-met}
pub use Rattle.algebra.proofs.region_intersect.Met.{met as region_intersect-met}
pub use Rattle.algebra.proofs.diff_less.Met.{met as diff_less-met}
pub use Rattle.algebra.proofs.region_less.Met.{met as region_less-met}
use Rattle.promises.specs.Outcome.{Promise, Buffered, OneOutcome, Kept}
use Rattle.promises.specs.Accepted.{Tells, writes, Accepted, Writable}
use Rattle.promises.proofs.Agreeing.{permitted, agree}
use Rattle.promises.proofs.Telling.{by-table, and_then, second-tells, two-tell, file-tells}
use Rattle.promises.proofs.Keeping.{kept}

-- a region is written exactly where it is within the limits and its file fits
region-tells : (w : ℕ) (r : Region) (room : ℕ) → Tells (Writable w r room) (writes (file_bytes w r)) (outcome (writing_region w r room))
region-tells w r room = by-table 3 _ (omega arith) (λ passed. search) (λ f. search)

-- REGION_TIDY: what was read is written again, tidied (FORMAT 71, 120)
pub region_tidy-promise : Promise region_tidy-call.Kinds.ps region_tidy-call.Kinds.r region_tidy-call.Reads.Asked region_tidy-call.Reads.Learnt
    (λ κs (s, (old, _)) x (_, (new, _)). Buffered (region_tidy s.now) old x new)
region_tidy-promise = record { anything = λ κs a. tt; permits = λ κs a x e. permitted }

module _ (s : List ℕ) where
  pub region_tidy-agrees : (old : List ℕ) → OneOutcome (region_tidy s (length old)) old
  region_tidy-agrees old = agree _ _

  pub region_tidy-answered : (room : ℕ)
      → let r = tidy_region (region_in s) in
      Tells (Accepted s × Writable (width_of s) r room) (writes (file_bytes (width_of s) r)) (region_tidy s room)
  unfolding region_tidy outcome
  region_tidy-answered room = and_then (file-tells s 1 _) (λ l. region-tells _ _ room)

  pub region_tidy-kept : (room : ℕ) → Kept room (region_tidy s room)
  unfolding region_tidy
  region_tidy-kept room = kept room _ (omega arith) (omega arith)

  pub region_tidy-means : (room : ℕ) → (region_tidy s room).answer.number ≡ 0 → (h : Header)
      → in_region (region_in (region_tidy s room).bytes) h ≡ in_region (region_in s) h
  region_tidy-means = Rewriting.in-region_tidy s

  pub region_tidy-written : (room : ℕ) → (region_tidy s room).answer.number ≡ 0
      → Written (width_of s) (tidy_region (region_in s)) (region_tidy s room).bytes
  region_tidy-written = Rewriting.region_tidy-written s

  pub tidy-same-bytes : (room : ℕ) → Bytes s → Accepted s → tidy_region (region_in s) ≡ region_in s → length s ≤ room
      → region_tidy s room ≡ writes s
  tidy-same-bytes = Rewriting.tidy-same s

  pub tidied-same-bytes : (room : ℕ) → (region_tidy s room).answer.number ≡ 0 → (again : ℕ) → length (region_tidy s room).bytes ≤ again
      → region_tidy (region_tidy s room).bytes again ≡ writes (region_tidy s room).bytes
  tidied-same-bytes = Rewriting.region_tidy-again s

-- DIFF_INTERSECT: the headers that are in both
pub diff_intersect-promise :
    Promise diff_intersect-call.Kinds.ps diff_intersect-call.Kinds.r diff_intersect-call.Reads.Asked diff_intersect-call.Reads.Learnt
    (λ κs (w, (s, (t, (old, _)))) x (_, (_, (_, (new, _)))). Buffered (diff_intersect w s.now t.now) old x new)
diff_intersect-promise = record { anything = λ κs a. tt; permits = λ κs a x e. permitted }

module _ (w : ℕ) (s t : List ℕ) where
  pub diff_intersect-agrees : (old : List ℕ) → OneOutcome (diff_intersect w s t (length old)) old
  diff_intersect-agrees old = agree _ _

  pub diff_intersect-answered : (room : ℕ)
      → let r = tidy_region (intersection (difference_at w s 0) (difference_at w t 0)) in
      Tells ((Lent w s × Lent w t) × Writable w r room) (writes (file_bytes w r)) (diff_intersect w s t room)
  unfolding diff_intersect outcome
  diff_intersect-answered room = and_then (two-tell w s t _) (λ l. region-tells _ _ room)

  pub diff_intersect-kept : (room : ℕ) → Kept room (diff_intersect w s t room)
  unfolding diff_intersect
  diff_intersect-kept room = kept room _ (omega arith) (omega arith)

  pub diff_intersect-means : (room : ℕ) → (diff_intersect w s t room).answer.number ≡ 0 → (h : Header)
      → in_region (region_in (diff_intersect w s t room).bytes) h ≡ in_difference (difference_at w s 0) h && in_difference (difference_at w t 0) h
  diff_intersect-means = Rewriting.in-diff_intersect w s t

  pub diff_intersect-written : (room : ℕ) → (diff_intersect w s t room).answer.number ≡ 0
      → Written w (tidy_region (intersection (difference_at w s 0) (difference_at w t 0))) (diff_intersect w s t room).bytes
  diff_intersect-written = Rewriting.diff_intersect-written w s t

-- REGION_INTERSECT: the headers that are in both; 20 where the two W differ (FORMAT 45)
pub region_intersect-promise :
    Promise region_intersect-call.Kinds.ps region_intersect-call.Kinds.r region_intersect-call.Reads.Asked region_intersect-call.Reads.Learnt
    (λ κs (s, (t, (old, _))) x (_, (_, (new, _))). Buffered (region_intersect s.now t.now) old x new)
region_intersect-promise = record { anything = λ κs a. tt; permits = λ κs a x e. permitted }

module _ (s t : List ℕ) where
  pub region_intersect-agrees : (old : List ℕ) → OneOutcome (region_intersect s t (length old)) old
  region_intersect-agrees old = agree _ _

  pub region_intersect-answered : (room : ℕ)
      → let w = width_of s in
      let r = tidy_region (intersections (region_in s) (region_in t)) in
      Tells (((Accepted s × Accepted t) × (w ≡ width_of t)) × Writable w r room) (writes (file_bytes w r)) (region_intersect s t room)
  unfolding region_intersect
  region_intersect-answered room = by-table 6 _ (omega (arith, file-refusal s, file-refusal t)) (λ passed. search) (λ o. search)

  pub region_intersect-kept : (room : ℕ) → Kept room (region_intersect s t room)
  unfolding region_intersect
  region_intersect-kept room = kept room _ (omega arith) (omega arith)

  pub region_intersect-means : (room : ℕ) → (region_intersect s t room).answer.number ≡ 0 → (h : Header)
      → in_region (region_in (region_intersect s t room).bytes) h ≡ in_region (region_in s) h && in_region (region_in t) h
  region_intersect-means = Rewriting.in-region_intersect s t

  pub region_intersect-written : (room : ℕ) → (region_intersect s t room).answer.number ≡ 0
      → Written (width_of s) (tidy_region (intersections (region_in s) (region_in t))) (region_intersect s t room).bytes
  region_intersect-written = Rewriting.region_intersect-written s t

-- DIFF_LESS: the headers that are in the first and not in the second
pub diff_less-promise : Promise diff_less-call.Kinds.ps diff_less-call.Kinds.r diff_less-call.Reads.Asked diff_less-call.Reads.Learnt
    (λ κs (w, (s, (t, (old, _)))) x (_, (_, (_, (new, _)))). Buffered (diff_less w s.now t.now) old x new)
diff_less-promise = record { anything = λ κs a. tt; permits = λ κs a x e. permitted }

module _ (w : ℕ) (s t : List ℕ) where
  pub diff_less-agrees : (old : List ℕ) → OneOutcome (diff_less w s t (length old)) old
  diff_less-agrees old = agree _ _

  pub diff_less-answered : (room : ℕ)
      → let r = tidy_region (subtraction (difference_at w s 0) (difference_at w t 0)) in
      Tells ((Lent w s × Lent w t) × Writable w r room) (writes (file_bytes w r)) (diff_less w s t room)
  unfolding diff_less outcome
  diff_less-answered room = and_then (two-tell w s t _) (λ l. region-tells _ _ room)

  pub diff_less-kept : (room : ℕ) → Kept room (diff_less w s t room)
  unfolding diff_less
  diff_less-kept room = kept room _ (omega arith) (omega arith)

  pub diff_less-means : (room : ℕ) → (diff_less w s t room).answer.number ≡ 0 → (h : Header)
      → in_region (region_in (diff_less w s t room).bytes) h ≡ in_difference (difference_at w s 0) h && not (in_difference (difference_at w t 0) h)
  diff_less-means = Rewriting.in-diff_less w s t

  pub diff_less-written : (room : ℕ) → (diff_less w s t room).answer.number ≡ 0
      → Written w (tidy_region (subtraction (difference_at w s 0) (difference_at w t 0))) (diff_less w s t room).bytes
  diff_less-written = Rewriting.diff_less-written w s t

-- REGION_LESS: the headers that are in the region and not in the difference, which has the file's W (FORMAT 65)
pub region_less-promise : Promise region_less-call.Kinds.ps region_less-call.Kinds.r region_less-call.Reads.Asked region_less-call.Reads.Learnt
    (λ κs (s, (t, (old, _))) x (_, (_, (new, _))). Buffered (region_less s.now t.now) old x new)
region_less-promise = record { anything = λ κs a. tt; permits = λ κs a x e. permitted }

module _ (s t : List ℕ) where
  pub region_less-agrees : (old : List ℕ) → OneOutcome (region_less s t (length old)) old
  region_less-agrees old = agree _ _

  pub region_less-answered : (room : ℕ)
      → let w = width_of s in
      let r = tidy_region (subtractions (region_in s) (difference_at w t 0)) in
      Tells ((Accepted s × Lent w t) × Writable w r room) (writes (file_bytes w r)) (region_less s t room)
  unfolding region_less outcome
  region_less-answered room =
      and_then (and_then (file-tells s 1 _) (λ l. let f = file-of s l in second-tells (width_of s) t f.width.some f.width.narrow _))
      (λ l. region-tells _ _ room)

  pub region_less-kept : (room : ℕ) → Kept room (region_less s t room)
  unfolding region_less
  region_less-kept room = kept room _ (omega arith) (omega arith)

  pub region_less-means : (room : ℕ) → (region_less s t room).answer.number ≡ 0 → (h : Header)
      → in_region (region_in (region_less s t room).bytes) h ≡ in_region (region_in s) h && not (in_difference (difference_at (width_of s) t 0) h)
  region_less-means = Rewriting.in-region_less s t

  pub region_less-written : (room : ℕ) → (region_less s t room).answer.number ≡ 0
      → Written (width_of s) (tidy_region (subtractions (region_in s) (difference_at (width_of s) t 0))) (region_less s t room).bytes
  region_less-written = Rewriting.region_less-written s t
