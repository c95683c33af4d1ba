-- A header is asked of each record while the file is read: u is a turn of the reader, over the file s, and x the first holder before it.
--   turn-asked       the first holder with this record more
--   turn-index       the record's index
--   holder-none, holder-other, holder-before   it is this record, where there was none and this one holds it; else it is as it was
use Rattle.std.specs.Prelude.{Option, None, Some}
use Rattle.std.specs.Option.{is_some}
use mathlib.Core.Bool.{Bool, true, false, true≢false}
use Rattle.model.specs.Difference.{held}
use Prim.Native.Nat.{ℕ, ◌-◌}
use native.Mathlib.Omega.{arith}
use mathlib.Core.Path.{◌≡◌, refl, sym}
use mathlib.Core.List.{List}
use Rattle.format.specs.Records.{width_of}
use Rattle.format.proofs.Recording.{record_of}
use Rattle.region.specs.declared.difference.Difference.{Difference}
use Rattle.region.specs.declared.records.Records.{Records}
use Rattle.region.specs.Difference.{held_in}
use Rattle.region.specs.Asked.{in_record, first_record, holder_of, or_held}
use Rattle.region.specs.Reached.{passed}
use Rattle.region.specs.Reader.{Turned}
use Rattle.region.proofs.Held.{record-held}
use Rattle.region.proofs.Reading.{first-more}

module _ {r t : Records} {d : Difference} (u : Turned r t d) where
  asked : (h : List ℕ) → held_in h d ≡ in_record (width_of r.file.now) h r.file.now r.place
  asked h = record-held (record_of _ _ _ _ _ u.sound) u.difference h

  more : (h : List ℕ) → first_record (width_of r.file.now) h r.file.now (passed r.file.now t.count)
      ≡ or_held (first_record (width_of r.file.now) h r.file.now (passed r.file.now r.count)) (held_in h d) r.count
  more h = rw (u.more, asked h) (first-more r.reached u.here u.sound h)

  pub turn-index : t.count - 1 ≡ r.count
  turn-index = omega (arith, u.more)

  pub turn-asked : (s : List ℕ) → r.file.now ≡ s → (h : List ℕ) (x : Option ℕ) (b : Bool) → holder_of x ≡ first_record (width_of s) h s (passed s r.count)
      → b ≡ held_in h d → or_held (holder_of x) b r.count ≡ first_record (width_of s) h s (passed s t.count)
  turn-asked s e h x b i k = rw (i, k) (sym (rw e at more h))

pub holder-none : (x : Option ℕ) (n : ℕ) → is_some x ≡ false → held n ≡ or_held (holder_of x) true n
holder-none None n e = refl
holder-none (Some i) n e = absurd (true≢false e)

pub holder-other : (x : Option ℕ) (n : ℕ) → holder_of x ≡ or_held (holder_of x) false n
holder-other None n = refl
holder-other (Some i) n = refl

pub holder-before : (x : Option ℕ) (b : Bool) (n : ℕ) → is_some x ≡ true → holder_of x ≡ or_held (holder_of x) b n
holder-before None b n e = absurd (true≢false (sym e))
holder-before (Some i) b n e = refl
