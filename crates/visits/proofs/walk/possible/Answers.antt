-- `visits::walk::possible` meets its contract.
use Rattle.visits.specs.Walked.{possible}
use Rattle.visits.proofs.Walked.{unfit, fits-possible}
use mathlib.Core.Bool.{false}
use mathlib.Core.Path.{◌≡◌}
use lib.ListN.{length}
use Prim.Native.Nat.{◌+◌, ◌*◌, ◌^◌, ◌≤◌, ◌<◌}
use native.Mathlib.Omega.{arith}
use borrow.Author.Rules.{rules}
use Rattle.visits.proofs.walk.possible.Goals as goal

pub returns-then-q-gt80 : goal.returns-then-q-gt80
returns-then-q-gt80 c = unfit _ _ _ _ _ (λ f. omega (arith, f.0))

pub returns-then-left-gt65 : goal.returns-then-left-gt65
returns-then-left-gt65 c = unfit _ _ _ _ _ (λ f. omega (arith, f.2))

pub returns-in_err-checked_add : goal.returns-in_err-checked_add
returns-in_err-checked_add c =
    let g = c.args in
    let over : 2 ^ 32 ≤ g.a.left + g.a.spent = search rules in
    let none : possible (length g.s.now) g.q g.at g.left g.a ≡ false = unfit _ _ _ _ _ (λ f. omega (arith, over, f.3)) in
    search (rules, none)

pub returns-in_err-row : goal.returns-in_err-row
returns-in_err-row c =
    let g = c.args in
    let short : length g.s.now < g.at + g.left * g.q = search rules in
    let none : possible (length g.s.now) g.q g.at g.left g.a ≡ false = unfit _ _ _ _ _ (λ f. omega (arith, short, f.1)) in
    search (rules, none)

pub of-requires : goal.of-requires
of-requires c = search rules

pub returns : goal.returns
returns c =
    let g = c.args in
    let fits : g.a.left + g.a.spent < 2 ^ 32 = search rules in
    let row = c.in_ok-row.ensures in
    (fits-possible _ _ _ _ _ (c.if-q-gt80.false, row.within, c.if-left-gt65.false, fits), row, c.of.ensures)
