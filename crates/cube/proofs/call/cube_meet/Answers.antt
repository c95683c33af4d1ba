-- `cube::call::cube_meet` meets its contract.
use Prim.Native.Nat.{◌≤◌}
use native.Mathlib.Omega.{arith}
use mathlib.Core.Path.{refl, sym, ap, ◌∙◌}
use lib.ListN.{length}
use Rattle.format.proofs.Lending.{silent-answer, silent-bytes}
use Rattle.format.specs.Told.{Told, over}
use Rattle.cube.proofs.Pairs.{into-over}
use Rattle.cube.proofs.Reading.{bytes-all}
use Rattle.cube.proofs.Calling.{one_size, meet-refused, meet-apart, meet-short, meet-written}
use Rattle.cube.proofs.call.cube_meet.Goals as goal

pub returns-in-Err : goal.returns-in-Err
returns-in-Err c =
    let x = c.args in
    let is = meet-refused x.w x.a.now x.b.now _ c.in-Err.ensures (length x.out.now) in
    record { answer = silent-answer refl is; bytes = silent-bytes is }

pub returns-then-not-meets : goal.returns-then-not-meets
returns-then-not-meets c =
    let x = c.args in
    let is = meet-apart x.w x.a.now x.b.now c.in_default.ensures (length x.out.now) (sym c.if-not-meets.ensures) in
    record { answer = silent-answer c.no.ensures is; bytes = silent-bytes is }

pub returns-then-out-a : goal.returns-then-out-a
returns-then-out-a c =
    let x = c.args in
    let is = meet-short x.w x.a.now x.b.now c.in_default.ensures (bytes-all x.a.now (λ i. omega (arith, c.type_inv.a i)))
    (sym c.if-not-meets.ensures) (length x.out.now) c.if-out-a.true in
    record { answer = silent-answer c.into.ensures is; bytes = silent-bytes is }

pub returns : goal.returns
returns c =
    let x = c.args in
    let room : length x.a.now ≤ length x.out.now = c.if-out-a.false in
    let e = meet-written x.w x.a.now x.b.now c.in_default.ensures (bytes-all x.a.now (λ i. omega (arith, c.type_inv.a i)))
    (sym c.if-not-meets.ensures) (length x.out.now) room in
    record {
      answer = c.wrote.ensures ∙ ap (λ (t : Told). t.answer) e;
      bytes =
          c.meet_into.ensures
          ∙ into-over x.a.now x.b.now x.out.now (one_size x.w x.a.now x.b.now c.in_default.ensures) room
          ∙ ap (λ (t : Told). over x.out.now t.bytes) e;
    }
