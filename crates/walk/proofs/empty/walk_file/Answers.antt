use Rattle.format.specs.Records.{width_of}
use Rattle.format.specs.Files.{region_in}
use Rattle.format.specs.Bytes.{cube_len}
use mathlib.Core.Path.{ap, ◌∙◌}
use Rattle.region.proofs.Differences.{record-there, difference-there, difference-some, difference-own}
use Rattle.region.proofs.Fronts.{front_same}
use Rattle.region.proofs.Onward.{file-read, onward-record}
use Rattle.walk.specs.Ending.{whole_walks}
use Rattle.walk.proofs.Ended.{ended-passed}
use Rattle.walk.proofs.Emptied.{file-begun, file-inside, file-turn, file-stop, file-ended}
use Rattle.walk.proofs.empty.walk_file.Goals as goal

pub loop-i-init : goal.loop-i-init
loop-i-init c = rw c.first_at-at.ensures (file-begun c.requires.0 c.requires.1)

pub unwrap-difference-requires : goal.unwrap-difference-requires
unwrap-difference-requires c =
    let accepted = c.requires.0 in
    let l = c.loop-i.invariant in
    let there = record-there c.front_at-front.ensures.0 (width_of c.args.s.now) _ (c.cube_len-q.ensures ∙ ap cube_len accepted.width)
    (file-read accepted).width.narrow
    (onward-record l.onward (file-inside l c.loop-i-test.true)) in
    difference-some _ _ _ _ c.new.ensures there.0 there.1

pub returns-in_err-left : goal.returns-in_err-left
returns-in_err-left c =
    let x = c.in_err-left.field-0.0 in
    let v = c.walk_record in
    let w = width_of c.args.s.now in
    let d = difference-there c.front_at-front.ensures.0 w _ (c.cube_len-q.ensures ∙ ap cube_len c.requires.0.width)
    (difference-own _ _ _ _ c.new.ensures c.unwrap-difference.ensures) in
    ended-passed (cube_len w) c.args.a 0 (whole_walks w (region_in c.args.s.now)) x c.from_residual.result c.from_residual.ensures.1
    (file-stop c.loop-i.invariant c.loop-i-test.true d v.result v.ensures x c.in_err-left.ensures)

pub loop-i-preserved : goal.loop-i-preserved
loop-i-preserved c =
    let v = c.walk_record in
    let w = width_of c.args.s.now in
    let d = difference-there c.front_at-front.ensures.0 w _ (c.cube_len-q.ensures ∙ ap cube_len c.requires.0.width)
    (difference-own _ _ _ _ c.new.ensures c.unwrap-difference.ensures) in
    rw (front_same _ _ c.front_at-front.ensures.0)
    (file-turn c.loop-i.invariant c.loop-i-test.true d v.result v.ensures c.in_ok-left.left c.in_ok-left.ensures)

pub returns : goal.returns
returns c = file-ended c.loop-i.invariant c.loop-i-test.false
