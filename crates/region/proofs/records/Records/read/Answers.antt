-- `region::records::Records::read` meets its contract.
use mathlib.Core.Path.{refl}
use Rattle.format.proofs.Recording.{record_of}
use Rattle.region.proofs.Fronts.{front-next, front-own}
use Rattle.region.proofs.Reading.{turned, record-refused, whole_here}
use Rattle.region.proofs.records.Records.read.Goals as goal

pub returns-then-file-place : goal.returns-then-file-place
returns-then-file-place c = record { file = refl; same = refl; whole = whole_here c.args.self.now.reached c.if-file-place.true }

pub invariant_of-self : goal.invariant_of-self
invariant_of-self c =
    let r = c.args.self.now in
    let sound = rw r.states at c.in-Ok.ensures.0 in
    record {
      states = r.states;
      narrow = r.narrow;
      reached = rw (c.in-Ok.ensures.2, front-next (record_of _ _ _ _ _ sound) (front-own _ _)) (turned r.reached c.if-file-place.false sound);
    }

pub returns-in-Err : goal.returns-in-Err
returns-in-Err c =
    let r = c.args.self.now in
    record-refused r.reached _ c.if-file-place.false (rw r.states at c.in-Err.ensures) refl r.states
