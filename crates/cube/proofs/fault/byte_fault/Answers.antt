-- `cube::fault::byte_fault` meets its contract.
use mathlib.Core.Path.{sym, ◌∙◌}
use borrow.Author.Rules.{rules}
use Rattle.format.proofs.Reached.{reached}
use Rattle.cube.proofs.Faults.{fill, byte_rows, byte-fault, free-byte}
use Rattle.cube.proofs.fault.byte_fault.Goals as goal

pub returns-then-b-eq255 : goal.returns-then-b-eq255
returns-then-b-eq255 c = let x = c.before.args in free-byte x.w x.b (search rules) c.if-b-eq255.true

pub returns-then-code_zero : goal.returns-then-code_zero
returns-then-code_zero c =
    let x = c.before.before.before.args in
    reached 0 (byte_rows x.b (fill x.w)) (sym c.before.code_zero.ensures ∙ c.if-code_zero.true) ∙ byte-fault x.w x.b (search rules) (search rules)

pub returns-then-b-fill : goal.returns-then-b-fill
returns-then-b-fill c =
    let x = c.before.before.before.before.args in
    reached 1 (byte_rows x.b (fill x.w)) (sym c.before.before.code_zero.ensures ∙ c.before.if-code_zero.false, c.if-b-fill.true)
    ∙ byte-fault x.w x.b (search rules) (search rules)

pub returns : goal.returns
returns c =
    let x = c.before.before.before.before.args in
    reached 2 (byte_rows x.b (fill x.w)) (sym c.before.before.code_zero.ensures ∙ c.before.if-code_zero.false, (c.if-b-fill.false, tt))
    ∙ byte-fault x.w x.b (search rules) (search rules)
