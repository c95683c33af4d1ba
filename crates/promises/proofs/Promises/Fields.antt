-- What is promised of constraints on fields, by `prefix` and `equal_fields`. Beside the lines that the page has of every call:
--   prefix-means, equal_fields-means    a header is in what is written exactly where its field's first m positions are the value's, and exactly where
--                            its two fields are the same
--   prefix-whole             a prefix of length 0 fixes no position: every header is in what is written
--   prefix-written, equal_fields-written    the bytes written are accepted as a lent cube, and as a single record, and they are the definition's
--   equal_fields-tidy        the difference that equality writes is tidy as it stands
use Prim.Native.Nat.{ℕ, ◌≤◌}
use native.Mathlib.Omega.{arith}
use mathlib.Core.Path.{◌≡◌, refl, sym, subst}
use mathlib.Core.List.{List, [], ◌∷◌}
use mathlib.Core.Logic.{◌↔◌}
use mathlib.Core.Bool.{Bool, true, false, cond}
use lib.Dec.{eqb}
use lib.ListN.{length, take, drop}
use borrow.Author.Tests.{eqb-true, eqb-false}
use Rattle.model.specs.Cube.{Header, holds}
use Rattle.model.specs.Difference.{Difference, in_difference}
use Rattle.model.specs.Tidy.{tidy}
use Rattle.model.specs.Fields.{same_bits, prefix_cube, unequal, fields_equal}
use Rattle.model.proofs.Field.{prefix-length, equal-count, equal-tidy}
use Rattle.format.specs.Limits.{most_cuts}
use Rattle.format.specs.Bytes.{cube_len, bits, read_cube, write_cube}
use Rattle.format.specs.Records.{difference_at, difference_fault, difference_bytes}
use Rattle.format.specs.Calls.{prefix, equal_fields}
use Rattle.format.specs.Meaning.{WrittenCube}
use Rattle.format.proofs.Heading.{length-bits}
use Rattle.format.proofs.Rewriting
use Rattle.fields.proofs.prefix as prefix-call
use Rattle.fields.proofs.equal_fields as equal_fields-call
pub use Rattle.fields.proofs.prefix.Met.{met as prefix-met}
pub use Rattle.fields.proofs.equal_fields.Met.{met as equal_fields-met}
use Rattle.promises.specs.Outcome.{Promise, Buffered, OneOutcome, Kept}
use Rattle.promises.specs.Accepted.{Tells, writes, Prefixed, Fields}
use Rattle.promises.proofs.Agreeing.{permitted, agree}
use Rattle.promises.proofs.Telling.{by-table, cube-size}
use Rattle.promises.proofs.Keeping.{kept}

-- PREFIX: the cube of a prefix constraint, or 21 or 11 (FORMAT 78 to 81)
pub prefix-promise : Promise prefix-call.Kinds.ps prefix-call.Kinds.r prefix-call.Reads.Asked prefix-call.Reads.Learnt
    (λ κs (w, (s, (n, (m, (value, (old, _)))))) x (_, (_, (_, (_, (_, (new, _)))))). Buffered (prefix w s n m value.now) old x new)
prefix-promise = record { anything = λ κs a. tt; permits = λ κs a x e. permitted }

module _ (w s n m : ℕ) (value : List ℕ) where
  prefix-size : Prefixed w s n m value → length (write_cube (prefix_cube w s m (bits value))) ≡ cube_len w
  prefix-size f = cube-size w (prefix_cube w s m (bits value)) (prefix-length w s m (bits value) (omega arith) (rw (length-bits value) (omega arith)))

  pub prefix-agrees : (old : List ℕ) → OneOutcome (prefix w s n m value (length old)) old
  prefix-agrees old = agree _ _

  pub prefix-answered : (room : ℕ)
      → Tells (Prefixed w s n m value × (cube_len w ≤ room)) (writes (write_cube (prefix_cube w s m (bits value)))) (prefix w s n m value room)
  unfolding prefix
  prefix-answered room =
      by-table 8 _ (omega arith)
      (λ passed. let f : Prefixed w s n m value = search arith in (f, omega (arith, prefix-size f)))
      (λ (f, fits). let size = prefix-size f in search arith)

  pub prefix-kept : (room : ℕ) → Kept room (prefix w s n m value room)
  unfolding prefix
  prefix-kept room = kept room _ (omega arith) (omega arith)

  pub prefix-means : (room : ℕ) → (prefix w s n m value room).answer.number ≡ 0 → (h : Header) → length h ≡ w
      → holds (read_cube w (prefix w s n m value room).bytes) h ≡ same_bits (take m (drop s h)) (take m (bits value))
  prefix-means = Rewriting.in-prefix-written w s n m value

  pub prefix-written : (room : ℕ) → (prefix w s n m value room).answer.number ≡ 0
      → WrittenCube w (prefix_cube w s m (bits value)) (prefix w s n m value room).bytes
  prefix-written = Rewriting.prefix-written w s n m value

pub prefix-whole : (w s n : ℕ) (value : List ℕ) (room : ℕ) → (prefix w s n 0 value room).answer.number ≡ 0 → (h : Header) → length h ≡ w
    → holds (read_cube w (prefix w s n 0 value room).bytes) h ≡ true
prefix-whole w s n = prefix-means w s n 0

-- EQUAL_FIELDS: the record of an equality of fields, or 21 or 18 (FORMAT 82 to 87)
pub equal_fields-promise : Promise equal_fields-call.Kinds.ps equal_fields-call.Kinds.r equal_fields-call.Reads.Asked equal_fields-call.Reads.Learnt
    (λ κs (w, (p, (q, (n, (old, _))))) x (_, (_, (_, (_, (new, _))))). Buffered (equal_fields w p q n) old x new)
equal_fields-promise = record { anything = λ κs a. tt; permits = λ κs a x e. permitted }

module _ (w p q n : ℕ) where
  few-cuts : (length (fields_equal w p q n).cuts ≤ most_cuts) ↔ ((p ≡ q → ⊥) → n ≤ 32)
  unfolding fields_equal
  few-cuts = go (eqb p q) refl
    where
      go : (b : Bool) → eqb p q ≡ b → (length (cond b [] (unequal w p q n)) ≤ most_cuts) ↔ ((p ≡ q → ⊥) → n ≤ 32)
      go true e = (λ h f. absurd (f (eqb-true p q e)), λ h. omega arith)
      go false e = (λ h f. omega (arith, equal-count w p q n), λ h. let l = h (eqb-false p q e) in omega (arith, equal-count w p q n))

  pub equal_fields-agrees : (old : List ℕ) → OneOutcome (equal_fields w p q n (length old)) old
  equal_fields-agrees old = agree _ _

  pub equal_fields-answered : (room : ℕ)
      → let bs = difference_bytes w (fields_equal w p q n) in
      Tells (Fields w p q n × (length bs ≤ room)) (writes bs) (equal_fields w p q n room)
  unfolding equal_fields
  equal_fields-answered room = by-table 7 _ (omega arith) (λ passed. search (arith, few-cuts.0)) (λ o. search (arith, few-cuts.1))

  pub equal_fields-kept : (room : ℕ) → Kept room (equal_fields w p q n room)
  unfolding equal_fields
  equal_fields-kept room = kept room _ (omega arith) (omega arith)

  pub equal_fields-means : (room : ℕ) → (equal_fields w p q n room).answer.number ≡ 0 → (h : Header) → length h ≡ w
      → in_difference (difference_at w (equal_fields w p q n room).bytes 0) h ≡ same_bits (take n (drop p h)) (take n (drop q h))
  equal_fields-means = Rewriting.in-equal_fields w p q n

  pub equal_fields-written : (room : ℕ) → (equal_fields w p q n room).answer.number ≡ 0
      → (difference_fault true w 0 (equal_fields w p q n room).bytes 0 ≡ 0) × (difference_at w (equal_fields w p q n room).bytes 0 ≡ fields_equal w p q n)
  equal_fields-written = Rewriting.equal_fields-written w p q n

  pub equal_fields-tidy : (room : ℕ) → (equal_fields w p q n room).answer.number ≡ 0
      → let d = difference_at w (equal_fields w p q n room).bytes 0 in
      tidy d ≡ d ∷ []
  equal_fields-tidy room e =
      let (f, _) = (equal_fields-answered room).accepted (omega arith) in
      let (_, same) = equal_fields-written room e in
      subst (λ (d : Difference). tidy d ≡ d ∷ []) (sym same) (equal-tidy w p q n f.first f.second)
