-- `walk::inclusion::Pair::gathered` meets its contract.
use Prim.Native.Nat.{◌*◌, ◌≤◌}
use native.Mathlib.Omega.{arith}
use native.Mathlib.Nat.{mul-le-mul}
use Rattle.format.specs.Limits.{widest_cube, most_cuts}
use Rattle.walk.proofs.Moved.{cuts-gathered}
use Rattle.walk.proofs.inclusion.Pair.gathered.Goals as goal

pub returns : goal.returns
returns c =
    let s = c.args.self.first in
    let size = s.alike in
    let most : s.cuts.count * s.cuts.size ≤ most_cuts * widest_cube = mul-le-mul {n₂ = most_cuts} {m₂ = widest_cube} s.few (omega (arith, size, s.short)) in
    rw (← size)
    (cuts-gathered s.cuts.size s.cuts.count s.cuts.bytes.now c.args.self.second.base.now _ _ _ s.cuts.within (omega (arith, c.args.self.alike, size))
    (omega (arith, most, size, s.short)) c.put.ensures c.put-2.ensures)
