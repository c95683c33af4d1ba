-- `visits::memory::keep` meets its contract.
use Rattle.visits.proofs.Slots.{keeps-right}
use borrow.Author.Rules.{rules}
use Rattle.visits.proofs.memory.keep.Goals as goal

pub returns-then-e-slots : goal.returns-then-e-slots
returns-then-e-slots c =
    keeps-right c.args.cuts.now c.args.slots.now c.args.near.now _ _ c.args.e c.args.alive c.args.count (search rules) c.common.ensures c.new.ensures

pub returns-else-e-slots : goal.returns-else-e-slots
returns-else-e-slots c = λ m n a f. m
