-- What is promised of the calls that walk, `diff_empty`, `region_empty` and `diff_in`, and of `ceiling`. Beside the lines that the page has of every call:
--   diff_empty-decides, region_empty-decides, diff_in-decides    demand 3, and which difference or piece decided
--   diff_in-means            where inclusion says yes, every header of the first is in the second
--   count-at-most-ceiling    no count of a difference's walk is above the ceiling that can be asked for
--   ceiling-enough           where it is below its cap, an allowance of it is enough
--   region-count-at-most-ceilings, in-count-at-most-ceilings    the count of a region's walk, and of inclusion's, is never above the ceilings of
--                            what is walked
use Prim.Native.Nat.{ℕ, ◌≤◌}
use native.Mathlib.Omega.{arith}
use mathlib.Core.Path.{◌≡◌}
use mathlib.Core.List.{List, [], ◌∷◌, map}
use mathlib.Core.Bool.{true, not, ◌&&◌}
use lib.ListN.{length}
use Rattle.model.specs.Cube.{Header}
use Rattle.model.specs.Difference.{in_difference, in_region}
use Rattle.model.specs.Algebra.{subtraction}
use Rattle.model.specs.Walk.{walk, walk_region, walk_inclusion, pieces_less, walks_less, stop, decide}
use Rattle.model.specs.Ceiling.{ceiling, most_pieces, capped}
use Rattle.model.proofs.Bools.{less_none}
use Rattle.model.proofs.Indexing.{one-stops, region-stops, less-stops}
use Rattle.answer.specs.Answer.{counted}
use Rattle.format.specs.Rows.{outcome}
use Rattle.format.specs.Bytes.{header_len}
use Rattle.format.specs.Records.{width_of, difference_at}
use Rattle.format.specs.Files.{region_in}
use Rattle.format.specs.Told.{silent, deciding}
use Rattle.format.specs.Calls.{diff_empty, region_empty, diff_in, ceiling_of}
use Rattle.format.specs.Meaning.{Lent}
use Rattle.format.proofs.Asking.{asks-yes}
use Rattle.format.proofs.Deciding.{empty-asks, region-asks, in-asks}
use Rattle.format.proofs.Deciding.{empty-at-most-ceiling, ceiling-suffices}
use Rattle.walk.proofs.diff_empty as diff_empty-call
use Rattle.walk.proofs.region_empty as region_empty-call
use Rattle.walk.proofs.diff_in as diff_in-call
use Rattle.walk.proofs.ceiling as ceiling-call
pub use Rattle.walk.proofs.diff_empty.Met.{met as diff_empty-met}
pub use Rattle.walk.proofs.region_empty.Met.{met as region_empty-met}
pub use Rattle.walk.proofs.diff_in.Met.{met as diff_in-met}
pub use Rattle.walk.proofs.ceiling.Met.{met as ceiling-met}
use Rattle.promises.specs.Outcome.{Promise, Buffered, OneOutcome, OneResult, Kept}
use Rattle.promises.specs.Accepted.{Tells, Accepted}
use Rattle.promises.specs.Decides.{Decides, ceilings}
use Rattle.promises.proofs.Agreeing.{permitted, agree, same-result}
use Rattle.promises.proofs.Telling.{and_then, lent-tells, two-tell, file-tells}
use Rattle.promises.proofs.Keeping.{kept}
use Rattle.promises.proofs.Deciding.{walking-tells, decides, deciding-shows, walk_kept}
use Rattle.promises.proofs.Deciding.{pieces-at-most-ceilings, count-at-most-pieces, at_most}

-- DIFF_EMPTY: whether no header is in a difference, or a header that is
pub diff_empty-promise : Promise diff_empty-call.Kinds.ps diff_empty-call.Kinds.r diff_empty-call.Reads.Asked diff_empty-call.Reads.Learnt
    (λ κs (w, (s, (n, (old, _)))) x (_, (_, (_, (new, _)))). Buffered (diff_empty w s.now n) old x new)
diff_empty-promise = record { anything = λ κs a. tt; permits = λ κs a x e. permitted }

module _ (w : ℕ) (s : List ℕ) (n : ℕ) where
  pub diff_empty-agrees : (old : List ℕ) → OneOutcome (diff_empty w s n (length old)) old
  diff_empty-agrees old = agree _ _

  pub diff_empty-answered : (room : ℕ)
      → Tells (Lent w s × (header_len w ≤ room)) (deciding w (decide n 0 (walk (difference_at w s 0)))) (diff_empty w s n room)
  unfolding diff_empty outcome
  diff_empty-answered room = and_then (lent-tells w s _) (λ l. walking-tells w n room _ _)

  pub diff_empty-decides : (room : ℕ)
      → let d = difference_at w s 0 in
      Decides w n (in_difference d) (walk d) (d ∷ []) (walk d ∷ []) (Lent w s × (header_len w ≤ room)) (diff_empty w s n room)
  diff_empty-decides room = decides (empty-asks w s n room) (one-stops n (difference_at w s 0))

  pub diff_empty-kept : (room : ℕ) → Kept room (diff_empty w s n room)
  unfolding diff_empty
  diff_empty-kept room =
      let d = decide n 0 (walk (difference_at w s 0)) in
      walk_kept _ (omega arith) (λ some narrow sound fits. deciding-shows w d) (diff_empty-decides room) (λ (lent, fits). fits)

-- FORMAT 121: no count is above the ceiling
module _ (w : ℕ) (s : List ℕ) where
  pub count-at-most-ceiling : (n room : ℕ) → n ≤ most_pieces → (diff_empty w s n room).answer.count ≤ (ceiling_of w s).answer.count
  count-at-most-ceiling = empty-at-most-ceiling w s

  pub ceiling-enough : (room : ℕ) → ceiling (difference_at w s 0) ≤ most_pieces
      → (diff_empty w s (ceiling_of w s).answer.count room).answer.number ≡ 3 → ⊥
  ceiling-enough = ceiling-suffices w s

-- REGION_EMPTY: the same of a region
pub region_empty-promise : Promise region_empty-call.Kinds.ps region_empty-call.Kinds.r region_empty-call.Reads.Asked region_empty-call.Reads.Learnt
    (λ κs (s, (n, (old, _))) x (_, (_, (new, _))). Buffered (region_empty s.now n) old x new)
region_empty-promise = record { anything = λ κs a. tt; permits = λ κs a x e. permitted }

module _ (s : List ℕ) (n : ℕ) where
  pub region_empty-agrees : (old : List ℕ) → OneOutcome (region_empty s n (length old)) old
  region_empty-agrees old = agree _ _

  pub region_empty-answered : (room : ℕ)
      → let w = width_of s in
      let r = region_in s in
      Tells (Accepted s × (header_len w ≤ room)) (deciding w (decide n (stop n (map walk r)) (walk_region r))) (region_empty s n room)
  unfolding region_empty outcome
  region_empty-answered room = and_then (file-tells s 1 _) (λ l. walking-tells (width_of s) n room _ _)

  pub region_empty-decides : (room : ℕ)
      → let w = width_of s in
      let r = region_in s in
      Decides w n (in_region r) (walk_region r) r (map walk r) (Accepted s × (header_len w ≤ room)) (region_empty s n room)
  region_empty-decides room = decides (region-asks s n room) (region-stops n (region_in s))

  pub region_empty-kept : (room : ℕ) → Kept room (region_empty s n room)
  unfolding region_empty
  region_empty-kept room =
      let d = decide n (stop n (map walk (region_in s))) (walk_region (region_in s)) in
      walk_kept _ (omega arith) (λ sound fits. deciding-shows (width_of s) d) (region_empty-decides room) (λ (accepted, fits). fits)

  pub region-count-at-most-ceilings : (room : ℕ) → (region_empty s n room).answer.count ≤ ceilings (region_in s)
  unfolding region_empty
  region-count-at-most-ceilings room =
      let r = region_in s in
      at_most (ceilings r) _ (omega arith)
      (λ sound fits. omega (arith, count-at-most-pieces (width_of s) n (stop n (map walk r)) (walk_region r), pieces-at-most-ceilings r))

-- DIFF_IN: whether all of the first lies in the second, or a header that does not (FORMAT 114)
pub diff_in-promise : Promise diff_in-call.Kinds.ps diff_in-call.Kinds.r diff_in-call.Reads.Asked diff_in-call.Reads.Learnt
    (λ κs (w, (s, (t, (n, (old, _))))) x (_, (_, (_, (_, (new, _))))). Buffered (diff_in w s.now t.now n) old x new)
diff_in-promise = record { anything = λ κs a. tt; permits = λ κs a x e. permitted }

module _ (w : ℕ) (s t : List ℕ) (n : ℕ) where
  pub diff_in-agrees : (old : List ℕ) → OneOutcome (diff_in w s t n (length old)) old
  diff_in-agrees old = agree _ _

  pub diff_in-answered : (room : ℕ)
      → let a = difference_at w s 0 in
      let b = difference_at w t 0 in
      let d = decide n (stop n (walks_less a b)) (walk_inclusion a b) in
      Tells ((Lent w s × Lent w t) × (header_len w ≤ room)) (deciding w d) (diff_in w s t n room)
  unfolding diff_in outcome
  diff_in-answered room = and_then (two-tell w s t _) (λ l. walking-tells w n room _ _)

  pub diff_in-decides : (room : ℕ)
      → let a = difference_at w s 0 in
      let b = difference_at w t 0 in
      Decides w n (λ h. in_difference a h && not (in_difference b h)) (walk_inclusion a b) (pieces_less a b) (walks_less a b)
      ((Lent w s × Lent w t) × (header_len w ≤ room)) (diff_in w s t n room)
  diff_in-decides room = decides (in-asks w s t n room) (less-stops n (difference_at w s 0) (difference_at w t 0))

  pub diff_in-kept : (room : ℕ) → Kept room (diff_in w s t n room)
  unfolding diff_in
  diff_in-kept room =
      let a = difference_at w s 0 in
      let b = difference_at w t 0 in
      let d = decide n (stop n (walks_less a b)) (walk_inclusion a b) in
      walk_kept _ (omega arith) (λ some narrow first second fits. deciding-shows w d) (diff_in-decides room) (λ (lent, fits). fits)

  pub diff_in-means : (room : ℕ) → (diff_in w s t n room).answer.number ≡ 1 → (h : Header)
      → in_difference (difference_at w s 0) h ≡ true → in_difference (difference_at w t 0) h ≡ true
  diff_in-means room e = let (_, _, none) = asks-yes (in-asks w s t n room) e in λ h. less_none _ _ (none h)

  pub in-count-at-most-ceilings : (room : ℕ)
      → (diff_in w s t n room).answer.count ≤ ceilings (subtraction (difference_at w s 0) (difference_at w t 0))
  unfolding diff_in
  in-count-at-most-ceilings room =
      let a = difference_at w s 0 in
      let b = difference_at w t 0 in
      let r = subtraction a b in
      at_most (ceilings r) _ (omega arith)
      (λ some narrow first second fits. omega (arith, count-at-most-pieces w n (stop n (walks_less a b)) (walk_region r), pieces-at-most-ceilings r))

-- CEILING: that of a difference, given as the count (FORMAT 32, 116)
pub ceiling-promise : Promise ceiling-call.Kinds.ps ceiling-call.Kinds.r ceiling-call.Reads.Asked ceiling-call.Reads.Learnt
    (λ κs (w, (s, _)) x e. x ≡ (ceiling_of w s.now).answer)
ceiling-promise = record { anything = λ κs a. tt; permits = λ κs a x e l. l }

module _ (w : ℕ) (s : List ℕ) where
  pub ceiling-agrees : OneResult (ceiling_of w s).answer
  ceiling-agrees = same-result _

  pub ceiling-answered : Tells (Lent w s) (silent (counted 0 (capped (ceiling (difference_at w s 0))))) (ceiling_of w s)
  unfolding ceiling_of outcome
  ceiling-answered = lent-tells w s _

  pub ceiling-kept : Kept 0 (ceiling_of w s)
  unfolding ceiling_of
  ceiling-kept = kept 0 _ (omega arith) (omega arith)
