-- `visits::load::word` meets its contract.
use Rattle.visits.proofs.Carrying.{be-holds}
use lib.Seq.{get_or-take, get_or-drop}
use lib.ListN.{drop, get_or}
use native.Mathlib.Omega.{arith}
use mathlib.Core.Path.{◌≡◌}
use Prim.Native.Nat.{ℕ, ◌+◌, ◌-◌, ◌<◌}
use Rattle.visits.proofs.load.word.Goals as goal

pub returns : goal.returns
returns c =
    let g = c.args in
    let e : g.b + 8 - g.b ≡ 8 = omega arith in
    let there : (j : ℕ) → j < 8 → get_or c.copy_from_slice.new.self j 0 ≡ get_or g.bytes.now (g.b + j) 0 =
    λ j h. rw (c.copy_from_slice.ensures.after, e, get_or-take 8 (drop g.b g.bytes.now) j 0 h, get_or-drop) in
    rw c.from_be_bytes.ensures (be-holds g.bytes.now c.copy_from_slice.new.self g.b there c.fits-bytes)
