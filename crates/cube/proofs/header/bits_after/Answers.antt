-- `cube::header::bits_after` meets its contract.
use mathlib.Core.Path.{sym, ap, ◌∙◌}
use mathlib.Core.List.{List}
use Prim.Native.Nat.{ℕ, ◌/◌}
use borrow.Author.Tests.{le-ltb}
use Rattle.format.specs.Bytes.{bits, any_bit}
use Rattle.cube.proofs.Parts.{last-part}
use Rattle.cube.proofs.Headers.{none_after, some_after}
use Rattle.cube.proofs.header.bits_after.Goals as goal

pub returns-then-set_after : goal.returns-then-set_after
returns-then-set_after c = let x = c.args in c.if-set_after.true ∙ rw (sym c.if-set_after.ensures) at (some_after x.used x.h.now c.if-whole-h.true)

pub returns-else-set_after : goal.returns-else-set_after
returns-else-set_after c =
    let x = c.args in
    let rest = c.any_set.ensures ∙ ap (λ (l : List ℕ). any_bit (bits l)) (last-part x.h.now (x.used / 8)) in
    rest ∙ rw (sym c.if-set_after.ensures) at (some_after x.used x.h.now c.if-whole-h.true)

pub returns-else-whole-h : goal.returns-else-whole-h
returns-else-whole-h c = let x = c.args in le-ltb _ _ c.if-whole-h.false ∙ none_after x.used x.h.now c.if-whole-h.false
