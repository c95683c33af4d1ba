-- Membership as it is asked from outside, from the parts that answer it.
--   header-asked     of a header that has a fault nothing more is looked at
--   diff-told        a record without fault: what it is told of the header spelled is the call's outcome
--   region-told      a file without fault: the same of what the reader found
use Rattle.std.specs.Prelude.{Ok}
use Prim.Native.Nat.{ℕ}
use mathlib.Core.Path.{◌≡◌, refl, sym, ap, ◌∙◌}
use mathlib.Core.List.{List, [], ◌∷◌}
use mathlib.Core.Bool.{Bool, true, false, cond}
use borrow.Author.Tests.{eqb-true, eqb-false}
use lib.Dec.{eqb}
use Rattle.model.specs.Difference.{Holder, unheld, held, first_holder}
use Rattle.answer.specs.declared.Answer.{Answer}
use Rattle.answer.specs.Answer.{accepted}
use Rattle.answer.specs.Refusals.{Tested}
use Rattle.format.specs.Rows.{last, outcome}
use Rattle.format.specs.Bytes.{codes, read_header}
use Rattle.format.specs.Records.{width_of, difference_at}
use Rattle.format.specs.Files.{region_in}
use Rattle.format.specs.Told.{silent, bits_tests, one_record, lent_header, belonging}
use Rattle.format.specs.Calls.{diff_member, region_member}
use Rattle.format.proofs.Lending.{bits-refused, bits-passed, bits-lent, one-passed, one_lent, file-passed}
use Rattle.format.proofs.Recording.{record_of}
use Rattle.format.proofs.Filing.{file-of}
use Rattle.cube.specs.Header.{spelled_cube}
use Rattle.region.specs.Asked.{in_record, holder_of, or_held}
use Rattle.region.specs.Reader.{AskedOn}
use Rattle.region.specs.declared.asking.Asked.{Asked}
use Rattle.region.proofs.Held.{record-member, file-member}

module _ (w : ℕ) (h : List ℕ) where
  pub header-asked : (x y : Holder) → ((outcome (bits_tests w w h)).number ≡ 0 → x ≡ y)
      → outcome (lent_header w h (last (belonging x))) ≡ outcome (lent_header w h (last (belonging y)))
  header-asked x y f = go (eqb r.number 0) refl
    where
      r : Answer
      r = outcome (bits_tests w w h)

      go : (t : Bool) → eqb r.number 0 ≡ t → outcome (lent_header w h (last (belonging x))) ≡ outcome (lent_header w h (last (belonging y)))
      go true e =
          let z = eqb-true r.number 0 e in
          sym (bits-passed w w h r refl (last (belonging x)) z) ∙ ap (λ (k : Holder). outcome (last (belonging k))) (f z)
          ∙ bits-passed w w h r refl (last (belonging y)) z
      go false e =
          let n = eqb-false r.number 0 e in
          sym (bits-refused w w h r refl (last (belonging x)) n) ∙ bits-refused w w h r refl (last (belonging y)) n

pub diff-told : (w : ℕ) (s h c : List ℕ) (x : Holder) → Tested (outcome (one_record w s)) (Ok tt) → codes c ≡ spelled_cube h
    → x ≡ or_held unheld (in_record w c s 0) 0 → outcome (lent_header w h (last (belonging x))) ≡ diff_member w s h
unfolding diff_member
diff-told w s h c x t e q =
    let l = one_lent w s accepted (sym t) refl in
    let y = first_holder (difference_at w s 0 ∷ []) (read_header w h) in
    header-asked w h x y
    (λ p.
    q ∙ ap (λ (b : Bool). cond b (held 0) unheld)
    (record-member w h c l.narrow (bits-lent w w h _ refl p).0 e (record_of true w 0 s 0 l.sound)))
    ∙ one-passed w s accepted (sym t) silent (lent_header w h (last (belonging y))) refl

pub region-told : (s h c : List ℕ) (r : Asked) → AskedOn s c r → codes c ≡ spelled_cube h
    → outcome (lent_header r.width h (last (belonging (holder_of r.holder)))) ≡ region_member s h
unfolding region_member
region-told s h c r i e =
    let w = width_of s in
    let a = file-of s i.accepted in
    let x = holder_of r.holder in
    let y = first_holder (region_in s) (read_header w h) in
    ap (λ (v : ℕ). outcome (lent_header v h (last (belonging x)))) i.width
    ∙ header-asked w h x y (λ z. i.holder ∙ file-member w h c a.width.narrow (bits-lent w w h _ refl z).0 e a.list)
    ∙ file-passed s 1 (lent_header w h (last (belonging y))) i.accepted
