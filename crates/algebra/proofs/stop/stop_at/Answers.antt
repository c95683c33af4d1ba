-- `algebra::stop::stop_at` meets its contract.
use borrow.Author.Tests.{eq-eqb, ne_eqb}
use Rattle.region.proofs.Fronts.{front_same}
use Rattle.algebra.specs.Stops.{stop_at}
use Rattle.algebra.proofs.stop.stop_at.Goals as goal

pub returns-then-x-base : goal.returns-then-x-base
unfolding stop_at
returns-then-x-base c = rw (c.in-Less.is, eq-eqb _ _ c.if-x-base.true)

pub returns-in-Tidy : goal.returns-in-Tidy
unfolding stop_at
returns-in-Tidy c = rw c.in-Tidy.is

pub returns-in-Intersect : goal.returns-in-Intersect
unfolding stop_at
returns-in-Intersect c = rw (c.in-Intersect.is, front_same _ _ c.front_at-front.ensures.0)

pub returns-else-x-base : goal.returns-else-x-base
unfolding stop_at
returns-else-x-base c = rw (c.in-Less.is, ne_eqb _ _ c.if-x-base.false)
