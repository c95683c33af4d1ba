-- `region::lent::one_difference` meets its contract: a width's refusal comes first, and then the record's.
use native.Mathlib.Omega.{arith}
use mathlib.Core.Path.{refl, sym}
use Rattle.std.proofs.lemmas.Result.{err_from_is_err_and}
use Rattle.answer.specs.Answer.{accepted}
use Rattle.format.specs.Told.{width_tests, record_tests}
use Rattle.format.proofs.Lending.{width-lent, tested-refused}
use Rattle.region.proofs.Alone.{lent-passed}
use Rattle.region.proofs.lent.one_difference.Goals as goal

pub returns-in_err-width_refusal : goal.returns-in_err-width_refusal
returns-in_err-width_refusal c =
    let x = c.args in
    let p = err_from_is_err_and c.from_residual.result c.from_residual.ensures.1 in
    rw (p.1, p.2) (tested-refused (width_tests x.w) (record_tests x.w x.s.now 1) _ (omega arith) c.in_err-width_refusal.ensures)

pub lent_difference-requires : goal.lent_difference-requires
lent_difference-requires c = (width-lent c.args.w accepted (sym c.in_ok-width_refusal.ensures) refl).1

pub returns : goal.returns
returns c =
    let x = c.args in
    lent-passed (width_tests x.w) (record_tests x.w x.s.now 1) x.w x.s.now _ (omega arith) c.in_ok-width_refusal.ensures c.lent_difference.ensures
