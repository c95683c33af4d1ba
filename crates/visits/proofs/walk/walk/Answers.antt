-- `visits::walk::walk` meets its contract: what `possible` says is the one test.
use Rattle.visits.proofs.Walked.{walked-idle, walked-row}
use Rattle.visits.proofs.walk.walk.Goals as goal

pub returns-in_default : goal.returns-in_default
returns-in_default c = let x = c.args in walked-idle x.q x.piece x.s.now x.at x.left x.a c.in_default.ensures

pub returns : goal.returns
returns c = let x = c.args in walked-row x.q x.piece x.s.now x.at x.left x.a _ c.in-Some.ensures.0 c.in-Some.ensures.1 _ _ c.in-Some.ensures.2
    c.walk_within.ensures
