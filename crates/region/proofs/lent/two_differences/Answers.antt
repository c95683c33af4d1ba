-- `region::lent::two_differences` meets its contract: the refusal of the width or of the first record comes first, and then the second record's.
use native.Mathlib.Omega.{arith}
use mathlib.Core.Path.{refl, sym}
use Rattle.std.specs.Prelude.{Ok, Err}
use Rattle.std.proofs.lemmas.Result.{err_from_is_err_and}
use Rattle.answer.specs.Answer.{accepted}
use Rattle.format.specs.Told.{one_record, record_tests}
use Rattle.format.proofs.Lending.{one_lent, tested-refused, tested-passed}
use Rattle.region.proofs.lent.two_differences.Goals as goal

pub returns-in_err-first : goal.returns-in_err-first
returns-in_err-first c =
    let x = c.args in
    let p = err_from_is_err_and c.from_residual.result c.from_residual.ensures.1 in
    rw (p.1, p.2) (tested-refused (one_record x.w x.s.now) (record_tests x.w x.t.now 2) _ (omega arith) c.in_err-first.ensures)

pub lent_difference-requires : goal.lent_difference-requires
lent_difference-requires c = (one_lent c.args.w c.args.s.now accepted (sym c.in_ok-first.ensures.0) refl).narrow

pub returns-in_err-second : goal.returns-in_err-second
returns-in_err-second c =
    let x = c.args in
    let r = c.from_residual-in_err-second in
    let p = err_from_is_err_and r.result r.ensures.1 in
    rw (p.1, p.2)
    (tested-passed (one_record x.w x.s.now) (record_tests x.w x.t.now 2) (Err c.in_err-second.field-0.0) (omega arith) c.in_ok-first.ensures.0
    c.in_err-second.ensures)

pub returns : goal.returns
returns c =
    let x = c.args in
    let passed = tested-passed (one_record x.w x.s.now) (record_tests x.w x.t.now 2) (Ok tt) (omega arith) c.in_ok-first.ensures.0 c.in_ok-second.ensures.0 in
    (passed, c.in_ok-first.ensures.1, c.in_ok-second.ensures.1)
