-- `fields::equality::equal_fields` meets its contract: each return is a row of its table.
use Prim.Native.Nat.{◌*◌, ◌<◌, ◌≤◌}
use mathlib.Core.Path.{◌≡◌, refl, sym, ap, ◌∙◌}
use lib.ListN.{length}
use Rattle.answer.specs.Answer.{wrote}
use Rattle.format.specs.Bytes.{cube_len}
use Rattle.format.proofs.Lending.{silent-answer, silent-bytes, told-answer, told-bytes}
use Rattle.region.specs.Writing.{record_len}
use Rattle.fields.specs.Equality.{most_pairs, pairs}
use Rattle.fields.proofs.Bounding.{field-stands}
use Rattle.fields.proofs.Equalities.{equal-first-refused, equal-second-refused, equal-many, equal-short, equal-written}
use Rattle.fields.proofs.equality.equal_fields.Goals as goal

pub returns-in-Err : goal.returns-in-Err
returns-in-Err c =
    let x = c.args in
    let is = equal-first-refused x.w x.p x.q x.n (length x.out.now) _ c.in-Err.ensures in
    record { answer = silent-answer refl is; bytes = silent-bytes is }

pub returns-in-Err-field_refusal : goal.returns-in-Err-field_refusal
returns-in-Err-field_refusal c =
    let x = c.args in
    let is = equal-second-refused x.w x.p x.q x.n (length x.out.now) _ (field-stands x.w x.p x.n c.in_default.ensures) c.in-Err-field_refusal.ensures in
    record { answer = silent-answer refl is; bytes = silent-bytes is }

pub of_fields-pairs-requires : goal.of_fields-pairs-requires
of_fields-pairs-requires c =
    let x = c.args in
    let first = field-stands x.w x.p x.n c.in_default.ensures in
    let second = field-stands x.w x.q x.n c.in_default-field_refusal.ensures in
    (first.narrow, first.inside, second.inside)

pub returns-then-pairs-gt-MOST_PAIRS : goal.returns-then-pairs-gt-MOST_PAIRS
returns-then-pairs-gt-MOST_PAIRS c =
    let x = c.args in
    let first = field-stands x.w x.p x.n c.in_default.ensures in
    let second = field-stands x.w x.q x.n c.in_default-field_refusal.ensures in
    let many : most_pairs < pairs x.p x.q x.n = rw (sym c.of_fields-pairs.ensures.some) c.if-pairs-gt-MOST_PAIRS.true in
    let is = equal-many x.w x.p x.q x.n (length x.out.now) first second many in
    record { answer = silent-answer c.into.ensures is; bytes = silent-bytes is }

pub returns-then-out-size : goal.returns-then-out-size
returns-then-out-size c =
    let x = c.args in
    let first = field-stands x.w x.p x.n c.in_default.ensures in
    let second = field-stands x.w x.q x.n c.in_default-field_refusal.ensures in
    let m = c.of_fields-pairs.ensures.some in
    let few : pairs x.p x.q x.n ≤ most_pairs = rw (sym m) c.if-pairs-gt-MOST_PAIRS.false in
    let size : c.record_len-size.result ≡ record_len (2 * pairs x.p x.q x.n) (cube_len x.w) = c.record_len-size.ensures ∙ rw (m, c.cube_len.ensures) refl in
    let is = equal-short x.w x.p x.q x.n (length x.out.now) first second few (rw (sym size) c.if-out-size.true) in
    record { answer = silent-answer c.into-then-out-size.ensures is; bytes = silent-bytes is }

pub returns : goal.returns
returns c =
    let x = c.args in
    let first = field-stands x.w x.p x.n c.in_default.ensures in
    let second = field-stands x.w x.q x.n c.in_default-field_refusal.ensures in
    let m = c.of_fields-pairs.ensures.some in
    let few : pairs x.p x.q x.n ≤ most_pairs = rw (sym m) c.if-pairs-gt-MOST_PAIRS.false in
    let size : c.record_len-size.result ≡ record_len (2 * pairs x.p x.q x.n) (cube_len x.w) = c.record_len-size.ensures ∙ rw (m, c.cube_len.ensures) refl in
    let e = c.of_fields-pairs.ensures in
    let is = equal-written x.w x.p x.q x.n (length x.out.now) first second few (rw (sym size) c.if-out-size.false) in
    record {
      answer = told-answer is (c.wrote.ensures ∙ ap wrote size);
      bytes = told-bytes x.out.now is (c.put_record.ensures ∙ rw (e.wide, e.one, e.other, e.some) refl);
    }
