-- `visits::visit::split_first` meets its contract.
use Rattle.visits.proofs.CutRows.{row-none, row-first}
use borrow.Author.Rules.{rules}
use Rattle.visits.proofs.visit.split_first.Goals as goal

pub returns-in_err-count : goal.returns-in_err-count
returns-in_err-count c = let none = row-none c.args.cuts (search rules) in search (rules, none)

pub returns : goal.returns
returns c = row-first c.args.cuts _ c.split_at.result.0.now (search rules) c.split_at.ensures.front c.split_at.ensures.back (search rules) (search rules)
