-- `cube::compare::equal` meets its contract.
use mathlib.Core.Path.{◌∙◌}
use borrow.Author.Rules.{rules}
use Rattle.cube.proofs.Reading.{bytes-all}
use Rattle.cube.proofs.Sameness.{same-bytes}
use Rattle.cube.proofs.compare.equal.Goals as goal

pub returns : goal.returns
returns c =
    let x = c.args in
    c.eq.ensures
    ∙ same-bytes x.a.now x.b.now (bytes-all x.a.now (λ i. search rules)) (bytes-all x.b.now (λ i. search rules))
