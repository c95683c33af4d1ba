-- `region::lent::lent_difference` meets its contract.
use mathlib.Core.Path.{refl, sym}
use Rattle.answer.specs.Answer.{accepted}
use Rattle.format.proofs.Lending.{record-lent}
use Rattle.format.proofs.Recording.{record_of}
use Rattle.region.proofs.Differences.{record-there}
use Rattle.region.proofs.lent.lent_difference.Goals as goal

pub at-requires : goal.at-requires
at-requires c =
    let x = c.args in
    record-there c.front_at.ensures.0 c.args.w _ c.cube_len.ensures c.requires
    (record_of _ _ _ _ _ (record-lent x.w x.s.now x.operand accepted (sym c.in_ok-record_refusal.ensures) refl))
