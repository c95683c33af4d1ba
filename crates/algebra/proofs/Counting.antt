-- Counting a result, one difference after another.
--   long-append, bytes-append    whether regions in a row have a difference with too many cuts, and their bytes
--   counts-none      nothing is counted yet
--   AddsTo           == Adds, where nothing is refused
--   add-none         nothing is added
--   add-long         a difference with too many cuts
--   add-past         one more where there are too many already
--   add-more         one more
--   add-both         one region added, and then one more
--   add-over         where a difference has too many cuts, the refusal stands whatever comes after
use Prim.Native.Nat.{ℕ, ◌+◌, ◌*◌, ◌≤◌, ◌<◌}
use native.Mathlib.Omega.{arith}
use mathlib.Core.Path.{◌≡◌, refl, sym, ap, ◌∙◌}
use mathlib.Core.List.{List, [], ◌∷◌, ◌++◌, append-nil, append_assoc}
use mathlib.Core.Bool.{false, ◌||◌, or_assoc, or-false, or-true}
use lib.Dec.{ltb}
use borrow.Author.Tests.{lt-ltb, le-ltb}
use lib.ListN.{length, take, length-append, length-take}
use lib.Seq.{take_all, take-append-le}
use Rattle.std.proofs.Common.{Result, Ok, Err}
use Rattle.answer.specs.declared.refusal.Refusal.{Refusal}
use Rattle.answer.specs.declared.refusal.Refusal.TheVariants.{Cuts}
use Rattle.model.specs.Difference.{Difference, Region}
use Rattle.format.specs.Limits.{most_cuts, most_differences}
use Rattle.format.specs.Records.{difference_bytes, differences_bytes}
use Rattle.format.specs.Told.{any_long}
use Rattle.cube.specs.Lay.{laid}
use Rattle.algebra.specs.Totals.{Counts, Adds}
use Rattle.algebra.specs.declared.totals.Totals.{Totals}
use Rattle.cube.proofs.Laying.{over-more, length_over}

pub long-append : (r s : Region) → any_long (r ++ s) ≡ any_long r || any_long s
long-append [] s = refl
long-append (d ∷ r) s = rw (long-append r s) (sym (or_assoc (ltb most_cuts (length d.cuts)) (any_long r) (any_long s)))

pub bytes-append : (w : ℕ) (r s : Region) → differences_bytes w (r ++ s) ≡ differences_bytes w r ++ differences_bytes w s
bytes-append w [] s = refl
bytes-append w (d ∷ r) s = rw (bytes-append w r s) (sym (append_assoc (difference_bytes w d) (differences_bytes w r) (differences_bytes w s)))

pub counts-none : (q : ℕ) (old : List ℕ) (none : Totals) → none.count ≡ 0 → none.size ≡ 0 → Counts q [] old old none
counts-none q old none c s = record { short = refl; count = c; size = s; written = λ f g. refl }

abbrev pub AddsTo : ℕ → Region → List ℕ → Totals → List ℕ → Totals → Type 0
AddsTo q r out sum new next = (done : Region) (old : List ℕ) → Counts q done old out sum → Counts q (done ++ r) old new next

pub add-none : (q : ℕ) (out : List ℕ) (sum : Totals) → AddsTo q [] out sum out sum
add-none q out sum done old c = rw (append-nil done) c

module _ (q : ℕ) (d : Difference) (out : List ℕ) (sum : Totals) where
  pub add-long : most_cuts < length d.cuts → (new : List ℕ) → Adds q (d ∷ []) out sum new (Err Cuts)
  add-long h new done old c = (long-append done (d ∷ []) ∙ rw (lt-ltb most_cuts (length d.cuts) h) (or-true (any_long done)), refl)

  module _ (cuts : length d.cuts ≤ most_cuts) where
    still-short : (done : Region) → any_long done ≡ false → any_long (done ++ (d ∷ [])) ≡ false
    still-short done e = long-append done (d ∷ []) ∙ rw (le-ltb most_cuts (length d.cuts) cuts) (or-false (any_long done) ∙ e)

    pub add-past : most_differences < sum.count → AddsTo q (d ∷ []) out sum out sum
    add-past h done old c =
        let n : most_differences + 1 ≤ length done = omega (arith, simp length-take at c.count) in
        let t : take (most_differences + 1) (done ++ (d ∷ [])) ≡ take (most_differences + 1) done = take-append-le (most_differences + 1) done (d ∷ []) n in
        record {
          short = still-short done c.short;
          count = rw t c.count;
          size = rw t c.size;
          written = λ f g. absurd (omega (arith, simp length-append at f));
        }

    pub add-more : sum.count ≤ most_differences → (next : Totals) (new : List ℕ) → next.count ≡ sum.count + 1
        → next.size ≡ sum.size + length (difference_bytes (4 * q) d)
        → (next.size ≤ length out → new ≡ laid out sum.size (difference_bytes (4 * q) d)) → AddsTo q (d ∷ []) out sum new next
    add-more h next new one e put done old c =
        let n : length done ≤ most_differences = omega (arith, simp length-take at c.count) in
        let t : take (most_differences + 1) done ≡ done = take_all (most_differences + 1) done (omega arith) in
        let u : take (most_differences + 1) (done ++ (d ∷ [])) ≡ done ++ (d ∷ []) =
        take_all (most_differences + 1) (done ++ (d ∷ [])) (simp length-append (omega arith)) in
        let k : sum.count ≡ length done = rw t at c.count in
        let z : sum.size ≡ length (differences_bytes (4 * q) done) = rw t at c.size in
        let b : differences_bytes (4 * q) (done ++ (d ∷ [])) ≡ differences_bytes (4 * q) done ++ difference_bytes (4 * q) d =
        bytes-append (4 * q) done (d ∷ []) ∙ ap (λ (x : List ℕ). differences_bytes (4 * q) done ++ x) (append-nil (difference_bytes (4 * q) d)) in
        record {
          short = still-short done c.short;
          count = rw u (simp length-append (omega arith));
          size = rw (u, b) (simp length-append (omega arith));
          written = λ g r. let r2 = simp length-append at (rw b at r) in
              let o = c.written n (omega (arith, r2)) in
              let m : length out ≡ length old = ap length o ∙ length_over old (differences_bytes (4 * q) done) (omega (arith, r2)) in
              rw (b) (put (omega (arith, r2)) ∙ rw o (over-more old (differences_bytes (4 * q) done) (difference_bytes (4 * q) d) sum.size (sym z)));
        }

-- a region, and another after it
module _ (q : ℕ) (r s : Region) (out : List ℕ) (sum : Totals) where
  pub adds-both : (mid : List ℕ) (m : Totals) (new : List ℕ) (x : Result Totals Refusal) → AddsTo q r out sum mid m → Adds q s mid m new x
      → Adds q (r ++ s) out sum new x
  adds-both mid m new (Ok t) f g done old c = rw (← append_assoc done r s) (g (done ++ r) old (f done old c))
  adds-both mid m new (Err e) f g done old c = rw (← append_assoc done r s) (g (done ++ r) old (f done old c))

  pub adds-over : (mid new : List ℕ) (e : Refusal) → Adds q r out sum mid (Err e) → Adds q (r ++ s) out sum new (Err e)
  adds-over mid new e f done old c =
      let k = f done old c in
      (rw (← append_assoc done r s) (long-append (done ++ r) s ∙ rw k.0), k.1)
