-- `walk::inclusion::Pair::walk_less` meets its contract.
use native.Mathlib.Omega.{arith}
use mathlib.Core.List.{map}
use lib.ListN.{length}
use Rattle.model.specs.Walk.{walk_back, walks_less}
use Rattle.visits.proofs.Settle.{settle-keeps}
use Rattle.visits.specs.Settle.{says}
use Rattle.region.specs.Difference.{difference_of}
use Rattle.walk.proofs.Ended.{ended-passed, ended-here, ended-turn}
use Rattle.walk.proofs.inclusion.Pair.walk_less.Goals as goal

pub returns-in_err-left : goal.returns-in_err-left
returns-in_err-left c =
    let y = c.in_err-left.field-0.0 in
    let x = c.args in
    let v = c.walk_first in
    let later = map (walk_back (difference_of x.self.first)) (difference_of x.self.second).cuts in
    ended-passed (length x.self.first.base.now) x.a 0 (walks_less (difference_of x.self.first) (difference_of x.self.second)) y
    c.from_residual.result c.from_residual.ensures.1
    (ended-here (length x.self.first.base.now) x.a 0 _ later v.result v.ensures y c.in_err-left.ensures)

pub walk_restored-requires : goal.walk_restored-requires
walk_restored-requires c =
    let x = c.args in
    rw c.in_ok-left.ensures.1 (omega (arith, c.requires, settle-keeps x.a _ (says (length x.self.first.base.now) c.walk_first.result) c.walk_first.ensures))

pub returns : goal.returns
returns c =
    let x = c.args in
    let v = c.walk_first in
    let later = map (walk_back (difference_of x.self.first)) (difference_of x.self.second).cuts in
    ended-turn (length x.self.first.base.now) x.a 0 _ later v.result v.ensures c.in_ok-left.left c.in_ok-left.ensures c.walk_restored.result
    c.walk_restored.ensures
