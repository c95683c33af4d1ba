-- `visits::load::load` meets its contract.
use Rattle.visits.proofs.Carrying.{words-hold, word_more}
use lib.ListN.{length-set}
use native.Mathlib.Omega.{arith}
use mathlib.Core.Path.{◌∙◌}
use borrow.Author.Rules.{rules}
use Rattle.visits.proofs.load.load.Goals as goal

pub loop-w-preserved : goal.loop-w-preserved
loop-w-preserved c =
    let v = c.loop-w.invariant in (
      length-set c.loop-w.ws c.loop-w.w c.word.result ∙ v.0,
      word_more c.padded-bytes.result c.loop-w.ws c.loop-w.w c.word.result (omega (arith, v.0))
          c.word.ensures v.1,
    )

pub returns : goal.returns
returns c = words-hold c.loop-w.ws c.padded-bytes.result (search rules) (λ w h. c.loop-w.invariant.1 w (omega (arith, c.loop-w-test.false)))
    ∙ c.padded-bytes.ensures
