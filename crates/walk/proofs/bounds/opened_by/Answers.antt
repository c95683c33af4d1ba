use Rattle.std.proofs.lemmas.Slice.Zip.{Zip-more, either_empty_from_Zip}
use Rattle.walk.proofs.Frees.{opened-fits, opened-turn, opened-all}
use Rattle.walk.proofs.bounds.opened_by.Goals as goal

pub overflow_sub-free_places : goal.overflow_sub-free_places
overflow_sub-free_places c =
    let more = Zip-more c.loop-x.x-iterator c.next.new.self _ _ c.in-Some.is c.next.ensures.steps in
    (opened-fits c.loop-x.invariant _ _ _ _ _ _ more.0 more.1 c.free_places.ensures c.free_places-in-loop-x.ensures).0

pub loop-x-preserved : goal.loop-x-preserved
loop-x-preserved c =
    let more = Zip-more c.loop-x.x-iterator c.next.new.self _ _ c.in-Some.is c.next.ensures.steps in
    rw c.from-opened.ensures (opened-turn c.loop-x.invariant _ _ _ _ _ _ more.0 more.1 c.free_places.ensures c.free_places-in-loop-x.ensures)

pub returns : goal.returns
returns c = opened-all c.loop-x.invariant (either_empty_from_Zip c.loop-x.x-iterator c.next.new.self _ c.in-None.is c.next.ensures.steps)
