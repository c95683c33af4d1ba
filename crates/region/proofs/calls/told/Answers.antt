-- `region::calls::told` meets its contract.
use Rattle.std.specs.Prelude.{Option, None, Some, Ok}
use Prim.Native.Nat.{ℕ}
use mathlib.Core.Path.{◌≡◌, refl, sym, ap, ◌∙◌}
use mathlib.Core.List.{List}
use Rattle.answer.specs.Answer.{accepted}
use Rattle.answer.specs.Refusals.{Tested}
use Rattle.format.specs.Rows.{last, outcome}
use Rattle.format.specs.Told.{Told, bits_tests, lent_header, belonging}
use Rattle.format.proofs.Reached.{reached}
use Rattle.format.proofs.Lending.{bits-refused, bits-passed}
use Rattle.region.specs.Asked.{holder_of}
use Rattle.region.proofs.calls.told.Goals as goal

-- what is told where the header is well formed, by the holder alone
passed : (w : ℕ) (h : List ℕ) (x : Option ℕ) → Tested (outcome (bits_tests w w h)) (Ok tt)
    → (belonging (holder_of x)).answer ≡ (outcome (lent_header w h (last (belonging (holder_of x))))).answer
passed w h x t =
    let k = last (belonging (holder_of x)) in
    ap (λ (t : Told). t.answer) (reached 0 k tt ∙ bits-passed w w h accepted (sym t) k refl)

pub returns-in-Err : goal.returns-in-Err
returns-in-Err c =
    let x = c.args in
    let k = last (belonging (holder_of x.holder)) in
    ap (λ (t : Told). t.answer) (bits-refused x.w x.w x.h.now _ c.in-Err.ensures.0 k c.in-Err.ensures.1)

pub returns-in-None : goal.returns-in-None
returns-in-None c = rw c.in-None.is (c.no.ensures ∙ passed c.args.w c.args.h.now None c.in_default.ensures)

pub returns-in-Some : goal.returns-in-Some
returns-in-Some c = rw c.in-Some.is (c.holding.ensures ∙ passed c.args.w c.args.h.now (Some _) c.in_default.ensures)
