-- `visits::memory::look` meets its contract.
use Rattle.std.proofs.Common.{◌≡◌, ◌<◌, length, get_or, rules}
use Rattle.visits.proofs.Slots.{recalls-right}
use Rattle.visits.proofs.memory.look.Goals as goal

pub returns : goal.returns
returns c =
    let g = c.args in
    let slot = c.in_ok-slot.slot.now in
    let inside : g.e < length g.slots.now = search rules in
    let there : get_or g.slots.now g.e slot ≡ slot = search rules in
    rw c.if-slot-alive.false at (recalls-right g.slots.now g.near.now g.e slot inside there (c.is_like.ensures c.if-not-is_like.false))
