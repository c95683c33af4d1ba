-- `region::calls::diff_member` meets its contract.
use Rattle.std.specs.Prelude.{None}
use Rattle.std.specs.Bool.{then_some}
use mathlib.Core.Bool.{Bool, true}
use mathlib.Core.List.{[], ◌∷◌}
use mathlib.Core.Path.{refl, sym, ap, ◌∙◌}
use Rattle.answer.specs.Answer.{accepted}
use Rattle.model.specs.Difference.{first_holder}
use Rattle.format.specs.Rows.{last}
use Rattle.format.specs.Bytes.{read_header}
use Rattle.format.specs.Records.{difference_at}
use Rattle.format.specs.Told.{lent_header, belonging, Told, silent}
use Rattle.format.proofs.Recording.{record_of}
use Rattle.format.specs.Calls.{diff_member}
use Rattle.format.proofs.Lending.{one-refused, one_lent}
use Rattle.region.proofs.Held.{holder-more, record-held}
use Rattle.region.proofs.Membership.{diff-told}
use Rattle.region.proofs.calls.diff_member.Goals as goal

pub returns-in-Err : goal.returns-in-Err
unfolding diff_member
returns-in-Err c =
    let x = c.args in
    let holder = first_holder (difference_at x.w x.s.now 0 ∷ []) (read_header x.w x.h.now) in
    let k = lent_header x.w x.h.now (last (belonging holder)) in
    ap (λ (t : Told). t.answer) (one-refused x.w x.s.now _ c.in-Err.ensures.0 silent k c.in-Err.ensures.1)

pub returns-in-Ok : goal.returns-in-Ok
returns-in-Ok c =
    let x = c.args in
    let lent = c.in-Ok.ensures in
    let r = record_of true x.w 0 x.s.now 0 (one_lent x.w x.s.now accepted (sym lent.0) refl).sound in
    let held = c.holds.ensures ∙ record-held r lent.1 _ in
    let holder = holder-more None _ 0 _ (c.then_some.ensures ∙ ap (λ (b : Bool). then_some b 0) held) in
    c.told.ensures ∙ ap (λ (t : Told). t.answer) (diff-told x.w x.s.now x.h.now _ _ lent.0 c.spelled.ensures holder)
