-- `visits::opening::open_marks` meets its contract.
use Rattle.visits.proofs.Digits.{openings-right}
use Rattle.visits.proofs.opening.open_marks.Goals as goal

pub returns : goal.returns
returns c = openings-right c.args.x c.args.y
