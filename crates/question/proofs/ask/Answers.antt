-- `question::ask` meets its contract.
use Rattle.std.proofs.Common.{◌≡◌, ◌≤◌, ℕ, List, length, ap, ◌∙◌}
use Rattle.format.specs.Limits.{widest_header, most_input}
use Rattle.format.specs.Told.{Told, over}
use Rattle.format.specs.Calls.{region_empty, question}
use Rattle.format.proofs.Reached.{reached}
use Rattle.question.proofs.ask.Goals as goal

pub returns-then-input-gt-MOST_INPUT-clause-answer : goal.returns-then-input-gt-MOST_INPUT-clause-answer
unfolding question
returns-then-input-gt-MOST_INPUT-clause-answer c =
    let e = reached 0 _ c.if-input-gt-MOST_INPUT.true in c.from.ensures ∙ ap (λ (t : Told). t.answer) e

pub returns-then-input-gt-MOST_INPUT-clause-bytes : goal.returns-then-input-gt-MOST_INPUT-clause-bytes
unfolding question
returns-then-input-gt-MOST_INPUT-clause-bytes c =
    let e = reached 0 _ c.if-input-gt-MOST_INPUT.true in ap (λ (t : Told). over c.args.header.now t.bytes) e

asked : (s : List ℕ) (room : ℕ) → room ≡ widest_header → length s ≤ most_input → region_empty s 1000000 room ≡ question s
unfolding question
asked s room e h = ap (region_empty s 1000000) e ∙ reached 1 _ (h, tt)

pub returns-clause-answer : goal.returns-clause-answer
returns-clause-answer c =
    let t = asked c.args.input.now _ c.requires c.if-input-gt-MOST_INPUT.false in
    c.region_empty.ensures.answer ∙ ap (λ (t : Told). t.answer) t

pub returns-clause-bytes : goal.returns-clause-bytes
returns-clause-bytes c =
    let t = asked c.args.input.now _ c.requires c.if-input-gt-MOST_INPUT.false in
    c.region_empty.ensures.bytes ∙ ap (λ (t : Told). over c.args.header.now t.bytes) t
