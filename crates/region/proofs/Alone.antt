-- A record that is lent: how its test ends, and one that comes after other tests.
use Rattle.std.specs.Prelude.{Result, Ok}
use Prim.Native.Nat.{ℕ}
use mathlib.Core.Path.{refl, sym, subst}
use mathlib.Core.List.{List}
use Rattle.answer.specs.declared.Answer.{Answer}
use Rattle.answer.specs.Answer.{accepted}
use Rattle.answer.specs.Refusals.{Tested}
use Rattle.format.specs.Rows.{Rows, then, outcome}
use Rattle.format.proofs.Reached.{Refuses}
use Rattle.format.proofs.Lending.{Accepts, tests-passed}
use Rattle.region.specs.declared.difference.Difference.{Difference}
use Rattle.region.specs.Lent.{LentIs}

pub lent-passed : (p k : Rows Answer) (w : ℕ) (s : List ℕ) (r : Result Difference Answer) → Refuses Accepts p → Tested (outcome p) (Ok tt)
    → LentIs (outcome k) w s r → LentIs (outcome (then p k)) w s r
lent-passed p k w s r h t e = subst (λ (a : Answer). LentIs a w s r) (tests-passed p accepted (sym t) (λ a. a) k h refl) e
