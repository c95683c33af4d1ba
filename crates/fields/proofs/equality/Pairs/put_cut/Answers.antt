-- `fields::equality::Pairs::put_cut` meets its contract: what is lent and comes back are the bytes of the cut.
use Prim.Native.Nat.{◌+◌, ◌-◌}
use native.Mathlib.Omega.{arith}
use mathlib.Core.Path.{◌≡◌, ap, ◌∙◌}
use lib.ListN.{length, length-take, length-drop}
use Rattle.format.specs.Bytes.{cube_len, code_of}
use Rattle.cube.specs.Lay.{laid}
use Rattle.cube.proofs.Laying.{part-back}
use Rattle.fields.proofs.Fielding.{lent-bytes, apart-bytes}
use Rattle.fields.proofs.equality.Pairs.put_cut.Goals as goal

pub returns : goal.returns
returns c =
    let x = c.args in
    let f = x.self in
    let ys = c.put_apart.new.c in
    let k = c.put_apart.auto.c in
    let e = c.cube_len.ensures in
    let n = x.o + c.cube_len.result - x.o in
    let l : length ys ≡ cube_len f.w = k ∙ simp (length-take, length-drop) (omega (arith, e, c.requires.0)) in
    let b = lent-bytes x.out.now ys x.o n (λ i. (c.type_inv.out i).fits) in
    let set = rw (← k) at c.put_apart.ensures in
    let same = apart-bytes f.w (f.p + x.i) (f.q + x.i) (code_of x.x) (code_of x.y) ys b l (omega (arith, c.requires.1, f.first)) (omega (arith, c.requires.1, f.second)) set in
    part-back x.out.now ys x.o n (l ∙ omega (arith, e)) ∙ ap (laid x.out.now x.o) same
