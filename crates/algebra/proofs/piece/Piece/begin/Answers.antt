-- `algebra::piece::Piece::begin` meets its contract.
use native.Mathlib.Omega.{arith}
use mathlib.Core.Path.{refl, sym, ◌∙◌}
use Rattle.algebra.proofs.Pieces.{begun-own, begun-none, begun-met}
use Rattle.algebra.proofs.piece.Piece.begin.Goals as goal

pub returns-in_default : goal.returns-in_default
returns-in_default c =
    let p = c.args.self.now in
    rw c.in_default.is (begun-own p _ _ c.args.t.now c.requires.length (omega (arith, p.narrow)) refl refl c.put.ensures)

pub returns-then-not-meets : goal.returns-then-not-meets
returns-then-not-meets c =
    let p = c.args.self.now in
    rw c.in-Some.is
    (begun-none p _ _ _ c.requires.length (omega (arith, p.narrow)) refl refl c.in-Some.at (c.requires.within _ c.in-Some.is)
    (sym c.if-not-meets.true ∙ c.meets.ensures))

pub returns : goal.returns
returns c =
    let p = c.args.self.now in
    rw c.in-Some.is
    (begun-met p _ _ _ c.requires.length (omega (arith, p.narrow)) refl refl c.in-Some.at (c.requires.within _ c.in-Some.is)
    (sym c.if-not-meets.false ∙ c.meets.ensures)
    c.meet_into.ensures)
