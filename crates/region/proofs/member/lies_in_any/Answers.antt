-- `region::member::lies_in_any` meets its contract.
use Rattle.std.proofs.Common.{refl, rules, tests}
use Rattle.std.proofs.lemmas.Iterator.Consumers.{YieldsList-from_first}
use Rattle.std.proofs.lemmas.Iterator.Search.{any_from_yields_List}
use Rattle.cube.specs.Pair.{lies_in}
use Rattle.cube.specs.Row.{slices_of}
use Rattle.region.proofs.member.lies_in_any.Goals as goal

pub returns : goal.returns
returns c =
    any_from_yields_List (lies_in c.args.header.now) c.any.new.self _ c.any.result c.any.ensures.ran
    (YieldsList-from_first (λ y. y.now) slices_of {s = c.args.cubes} _ refl)
    (λ x b q k. search (rules, tests))
