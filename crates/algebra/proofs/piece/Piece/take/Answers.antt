-- `algebra::piece::Piece::take` meets its contract.
use native.Mathlib.Omega.{arith}
use mathlib.Core.Path.{refl, sym, ◌∙◌}
use Rattle.std.proofs.Common.{rules, tests}
use Rattle.std.proofs.lemmas.Iterator.Consumers.{YieldsList-from_first}
use Rattle.std.proofs.lemmas.Iterator.Search.{any_from_yields_List}
use Rattle.cube.specs.Row.{slices_of}
use Rattle.algebra.proofs.Taking.{cut-apart, cut-covered, cut-again, cut-more}
use Rattle.algebra.proofs.piece.Piece.take.Goals as goal

pub returns-then-not-meets : goal.returns-then-not-meets
returns-then-not-meets c =
    cut-apart _ _ _ _ _ c.split_at_mut-base.ensures.value refl refl refl c.split_at_mut-base.ensures.front_len (sym c.if-not-meets.true ∙ c.meets.ensures)

pub returns-then-equal : goal.returns-then-equal
returns-then-equal c =
    let x = c.split_at_mut-base.ensures in
    let y = c.split_at_mut-bytes.ensures in
    cut-covered c.args.self.now _ _ _ _ _ _ _ x.value y.value x.front_len x.back_len y.front_len y.back_len c.requires.length c.requires.room (omega arith)
    c.meet_into.ensures refl refl (sym c.if-not-meets.false ∙ c.meets.ensures) (sym c.if-equal.true ∙ c.equal.ensures) (omega arith)

pub returns-then-any : goal.returns-then-any
returns-then-any c =
    let x = c.split_at_mut-base.ensures in
    let y = c.split_at_mut-bytes.ensures in
    cut-again c.args.self.now _ _ _ _ _ _ _ x.value y.value x.front_len x.back_len y.front_len y.back_len c.requires.length c.requires.room (omega arith)
    c.meet_into.ensures refl refl (sym c.if-not-meets.false ∙ c.meets.ensures) (sym c.if-equal.false ∙ c.equal.ensures)
    (sym c.if-any.true ∙ any_from_yields_List _ c.any.new.self _ _ c.any.ensures.ran (YieldsList-from_first (λ x. x.now) slices_of _ refl)
    (λ x b q k. search (rules, tests))) refl

pub returns : goal.returns
returns c =
    let x = c.split_at_mut-base.ensures in
    let y = c.split_at_mut-bytes.ensures in
    cut-more c.args.self.now _ _ _ _ _ _ _ x.value y.value x.front_len x.back_len y.front_len y.back_len c.requires.length c.requires.room (omega arith)
    c.meet_into.ensures refl refl (sym c.if-not-meets.false ∙ c.meets.ensures) (sym c.if-equal.false ∙ c.equal.ensures)
    (sym c.if-any.false ∙ any_from_yields_List _ c.any.new.self _ _ c.any.ensures.ran (YieldsList-from_first (λ x. x.now) slices_of _ refl)
    (λ x b q k. search (rules, tests))) refl
