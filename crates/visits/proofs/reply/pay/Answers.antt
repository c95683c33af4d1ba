-- `visits::reply::pay` meets its contract.
use Rattle.visits.proofs.Paying.{pays-short, pays-whole}
use borrow.Author.Rules.{rules}
use Rattle.visits.proofs.reply.pay.Goals as goal

pub returns-then-left-k : goal.returns-then-left-k
returns-then-left-k c = pays-short c.args.have.allowance c.args.k (search rules)

pub returns : goal.returns
returns c = pays-whole c.args.have.allowance c.args.k (search rules)
