-- `algebra::totals::Totals::add` meets its contract.
use native.Mathlib.Omega.{arith}
use mathlib.Core.Path.{refl}
use Rattle.cube.proofs.Wholes.{row-length}
use Rattle.algebra.specs.Tidied.{difference_in}
use Rattle.algebra.proofs.Counting.{add-long, add-past, add-more}
use Rattle.algebra.proofs.totals.Totals.add.Goals as goal

pub returns-then-piece-gt-MOST_CUTS : goal.returns-then-piece-gt-MOST_CUTS
returns-then-piece-gt-MOST_CUTS c =
    let p = c.args.piece.now in
    add-long p.size (difference_in p) c.args.out.now c.args.self (rw (row-length p.size p.cubes p.size p.kept) c.if-piece-gt-MOST_CUTS.true) c.args.out.now

pub returns-then-self-gt-MOST_DIFFERENCES : goal.returns-then-self-gt-MOST_DIFFERENCES
returns-then-self-gt-MOST_DIFFERENCES c =
    let p = c.args.piece.now in
    add-past p.size (difference_in p) c.args.out.now c.args.self (rw (row-length p.size p.cubes p.size p.kept) c.if-piece-gt-MOST_CUTS.false)
    c.if-self-gt-MOST_DIFFERENCES.true

pub invariant_of-result : goal.invariant_of-result
invariant_of-result c = record { few = omega arith; small = omega (arith, c.put_behind.ensures.low, c.args.self.small) }

pub returns : goal.returns
returns c =
    let p = c.args.piece.now in
    add-more p.size (difference_in p) c.args.out.now c.args.self (rw (row-length p.size p.cubes p.size p.kept) c.if-piece-gt-MOST_CUTS.false)
    c.if-self-gt-MOST_DIFFERENCES.false
    _ _ refl c.put_behind.ensures.ends c.put_behind.ensures.there
