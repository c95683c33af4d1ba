-- `walk::told::tell` meets its contract.
use mathlib.Core.Path.{◌∙◌}
use borrow.Author.Rules.{rules}
use Rattle.cube.proofs.Showing.{shown-fits}
use Rattle.walk.proofs.told.tell.Goals as goal

pub returns-in-Some-clause-bytes : goal.returns-in-Some-clause-bytes
returns-in-Some-clause-bytes c =
    let a = c.args in
    rw (c.in-Err.is, c.in-Some.is)
    (c.show.ensures ∙ shown-fits c.in-Some.piece (search rules) a.out.now a.w (search rules) (search rules))
