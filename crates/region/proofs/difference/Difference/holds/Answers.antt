-- `region::difference::Difference::holds` meets its contract.
use native.Mathlib.Omega.{arith}
use Rattle.region.proofs.Held.{held-short, held-out, held-through}
use Rattle.region.proofs.difference.Difference.holds.Goals as goal

pub returns-in_default : goal.returns-in_default
returns-in_default c = held-short c.args.h.now c.args.self (omega (arith, c.in_default.ensures.lookup.0))

pub returns-else-lies_in : goal.returns-else-lies_in
returns-else-lies_in c = held-out c.args.h.now c.args.self _ c.in-Some.ensures.lookup.0.2 _ c.lies_in.ensures c.if-lies_in.false

pub returns-then-lies_in : goal.returns-then-lies_in
returns-then-lies_in c =
    held-through c.args.h.now c.args.self _ c.in-Some.ensures.lookup.0.2 _ c.lies_in.ensures c.if-lies_in.true _ c.lies_in_any.ensures
