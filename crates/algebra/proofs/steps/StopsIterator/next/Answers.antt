-- `next` of `algebra::steps::Stops` meets its contract.
use Rattle.algebra.proofs.Stepping.{stops-end, stops-turn, fewer}
use Rattle.algebra.proofs.steps.StopsIterator.next.Goals as goal

pub returns-then-self-clause-steps : goal.returns-then-self-clause-steps
returns-then-self-clause-steps c =
    let i = c.args.self.now in
    (stops-end i.operation i.size i.t.now i.at c.if-self.true, stops-end i.operation i.size i.t.now i.at c.if-self.true)

pub returns-clause-steps : goal.returns-clause-steps
returns-clause-steps c = let i = c.args.self.now in stops-turn i.operation i.size i.t.now i.at i.some c.if-self.false _ c.stop_at-stop.ensures

pub returns-clause-goes : goal.returns-clause-goes
returns-clause-goes c =
    let i = c.args.self.now in
    record { on = λ f. (tt, tt, fewer _ _ _ (stops-turn i.operation i.size i.t.now i.at i.some c.if-self.false _ c.stop_at-stop.ensures)); keeps = tt; rests = λ f. tt }
