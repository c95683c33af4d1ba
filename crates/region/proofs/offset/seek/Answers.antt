-- `region::offset::seek` meets its contract.
use Prim.Native.Nat.{ℕ, suc, ◌+◌, ◌-◌, ◌<◌}
use native.Mathlib.Omega.{arith}
use mathlib.Core.Path.{◌≡◌, sym, ap, ◌∙◌}
use mathlib.Core.List.{List}
use lib.ListN.{length, get_or}
use Rattle.region.specs.Ahead.{ahead}
use Rattle.region.specs.Front.{front_at}
use Rattle.region.proofs.Onward.{seek-turn, seek-found}
use Rattle.region.proofs.offset.seek.Goals as goal

-- one turn of i before d
turn : (s : List ℕ) (at i d next : ℕ) → i < d → next ≡ (front_at s at).next
    → get_or (ahead s next) (d - (i + 1)) (length s) ≡ get_or (ahead s at) (d - i) (length s)
turn s at i d next h e =
    let k : d - i ≡ suc (d - (i + 1)) = omega arith in
    rw (e, k) (sym (seek-turn s at (d - (i + 1)) (length s)))

pub loop-preserved : goal.loop-preserved
loop-preserved c = turn c.args.s.now c.loop.at c.loop.counter c.args.d _ c.loop-test.true c.front_at-at.ensures.0.next ∙ c.loop.invariant

pub returns : goal.returns
returns c =
    let k : c.args.d - c.loop.counter ≡ 0 = omega arith in
    c.min.ensures ∙ sym (seek-found c.args.s.now c.loop.at) ∙ ap (λ (i : ℕ). get_or (ahead c.args.s.now c.loop.at) i (length c.args.s.now)) (sym k) ∙ c.loop.invariant
