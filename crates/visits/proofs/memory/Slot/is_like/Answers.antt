-- `visits::memory::Slot::is_like` meets its contract.
use Rattle.visits.proofs.Slots.{look-turn}
use Rattle.visits.proofs.memory.Slot.is_like.Goals as goal

pub loop-w-preserved : goal.loop-w-preserved
loop-w-preserved c = look-turn c.args.self.now c.args.near.now c.loop-w.w c.loop-w.differ c.loop-w.invariant
