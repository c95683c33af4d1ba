-- `region::lent::two_refusal` meets its contract: the refusal of the width or of the first record comes first, and then the second record's.
use native.Mathlib.Omega.{arith}
use Rattle.std.proofs.lemmas.Result.{err_from_is_err_and}
use Rattle.format.specs.Told.{one_record, record_tests}
use Rattle.format.proofs.Lending.{tested-refused, tested-passed}
use Rattle.region.proofs.lent.two_refusal.Goals as goal

pub returns-in_err-one_refusal : goal.returns-in_err-one_refusal
returns-in_err-one_refusal c =
    let x = c.args in
    let p = err_from_is_err_and c.from_residual.result c.from_residual.ensures.1 in
    rw (p.1, p.2) (tested-refused (one_record x.w x.s.now) (record_tests x.w x.t.now 2) _ (omega arith) c.in_err-one_refusal.ensures)

pub returns : goal.returns
returns c =
    let x = c.args in
    tested-passed (one_record x.w x.s.now) (record_tests x.w x.t.now 2) _ (omega arith) c.in_ok-one_refusal.ensures c.record_refusal.ensures
