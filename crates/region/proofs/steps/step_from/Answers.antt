-- `region::steps::step_from` meets its contract.
use mathlib.Core.Path.{sym, ◌∙◌}
use Rattle.format.proofs.Reached.{reached}
use Rattle.format.proofs.Refusals.{numbered}
use Rattle.format.proofs.Recording.{record_of}
use Rattle.format.proofs.Filing.{width-of}
use Rattle.format.specs.Calls.{read_on}
use Rattle.region.proofs.Fronts.{front-next, front-own}
use Rattle.region.proofs.steps.step_from.Goals as goal

pub returns-in-Err : goal.returns-in-Err
unfolding read_on
returns-in-Err c = rw (c.of_operand.ensures, c.in-Err.ensures) (reached 0 _ (λ z. numbered c.in-Err.refusal (c.in-Err.ensures ∙ z)))

pub returns-then-at-s : goal.returns-then-at-s
unfolding read_on
returns-then-at-s c = rw c.no.ensures (reached 1 _ (sym c.in_default.ensures, sym c.start_of-at.ensures ∙ c.if-at-s.true))

pub read_record-requires : goal.read_record-requires
read_record-requires c = rw c.width_of.ensures (width-of c.args.s.now (sym c.in_default.ensures)).narrow

pub returns-in-Err-read_record : goal.returns-in-Err-read_record
unfolding read_on
returns-in-Err-read_record c =
    let at = c.start_of-at in
    let found = rw (c.width_of.ensures, at.ensures) at c.in-Err-read_record.ensures in
    rw (c.of_operand-in-Err-read_record.ensures, found, at.ensures)
    (reached 2 _ (sym c.in_default.ensures, (λ z. c.if-at-s.false (at.ensures ∙ z), λ z. numbered c.in-Err-read_record.refusal (found ∙ z))))

pub returns-in-Ok : goal.returns-in-Ok
unfolding read_on
returns-in-Ok c =
    let at = c.start_of-at in
    let sound = rw (c.width_of.ensures, at.ensures) at c.in-Ok.ensures.0 in
    let next = rw (at.ensures, front-next (record_of _ _ 0 _ _ sound) (front-own _ _)) at c.in-Ok.ensures.2 in
    rw (c.placed.ensures, at.ensures, next) (reached 3 _ (sym c.in_default.ensures, (λ z. c.if-at-s.false (at.ensures ∙ z), (sound, tt))))
