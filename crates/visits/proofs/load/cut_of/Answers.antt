-- `visits::load::cut_of` meets its contract.
use Rattle.visits.specs.Loading.{cut_in}
use native.Mathlib.Omega.{arith}
use mathlib.Core.Path.{◌≡◌}
use Prim.Native.Nat.{◌+◌, ◌-◌, ◌*◌}
use Rattle.visits.proofs.load.cut_of.Goals as goal

pub returns : goal.returns
unfolding cut_in
returns c =
    let r = c.args.cuts in
    let at = (r.count - 1 - c.args.m) * r.size in
    let e : at + r.size - at ≡ r.size = omega arith in
    rw e
