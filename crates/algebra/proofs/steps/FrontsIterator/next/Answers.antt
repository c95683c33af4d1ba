-- `next` of `algebra::steps::Fronts` meets its contract.
use Rattle.region.proofs.Fronts.{front_same}
use Rattle.algebra.proofs.Stepping.{fronts-end, fronts-turn, fewer}
use Rattle.algebra.proofs.steps.FrontsIterator.next.Goals as goal

pub returns-then-self-clause-steps : goal.returns-then-self-clause-steps
returns-then-self-clause-steps c =
    let i = c.args.self.now in
    (fronts-end i.s.now i.at c.if-self.true, fronts-end i.s.now i.at c.if-self.true)

pub returns-clause-steps : goal.returns-clause-steps
returns-clause-steps c = let i = c.args.self.now in fronts-turn i.s.now i.at c.if-self.false _ (front_same _ _ c.front_at-front.ensures.0)

pub returns-clause-goes : goal.returns-clause-goes
returns-clause-goes c =
    let i = c.args.self.now in
    record { on = λ f. (tt, tt, fewer _ _ _ (fronts-turn i.s.now i.at c.if-self.false _ (front_same _ _ c.front_at-front.ensures.0))); keeps = tt; rests = λ f. tt }
