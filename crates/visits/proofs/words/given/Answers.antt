-- `visits::words::given` meets its contract.
use Rattle.visits.proofs.Digits.{taken-fits, taken-there, given-right}
use Rattle.visits.proofs.words.given.Goals as goal

pub overflow_sub-result-3 : goal.overflow_sub-result-3
overflow_sub-result-3 c = rw (taken-fits c.args.k c.args.v) (taken-there c.args.x c.args.k c.args.v c.requires.2)

pub returns : goal.returns
returns c = rw (taken-fits c.args.k c.args.v) (given-right c.args.x c.args.k c.args.v c.requires.0 c.requires.1 c.requires.2)
