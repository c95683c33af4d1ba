-- `fields::equality::Pairs::put_cuts` meets its contract: the cuts of each pair passed are written.
use Rattle.std.proofs.Common.{◌≡◌, ◌+◌, ◌++◌, length, refl, sym, ap, ◌∙◌, arith}
use lib.ListN.{length-append}
use Rattle.model.specs.Cube.{v0, v1}
use Rattle.model.specs.Fields.{apart, unequal}
use Rattle.format.specs.Bytes.{write_cube}
use Rattle.format.specs.Records.{cubes_bytes}
use Rattle.format.specs.Told.{over}
use Rattle.cube.proofs.Laying.{over-more}
use Rattle.fields.proofs.Fielding.{cuts-more, cut-length, cuts-length}
use Rattle.fields.proofs.equality.Pairs.put_cuts.Goals as goal

pub loop-i-init : goal.loop-i-init
unfolding unequal
loop-i-init c = (omega arith, refl, refl)

pub loop-i-preserved : goal.loop-i-preserved
loop-i-preserved c =
    let x = c.args.self in
    let old = c.args.out.now in
    let z = c.cube_len-size.result in
    let i = c.loop-i.i in
    let o = c.loop-i.o in
    let v = c.loop-i.invariant in
    let e = c.cube_len-size.ensures in
    let done = cubes_bytes (unequal x.w x.p x.q i) in
    let up = write_cube (apart x.w (x.p + i) (x.q + i) v0 v1) in
    let down = write_cube (apart x.w (x.p + i) (x.q + i) v1 v0) in
    let n : length done ≡ o = omega (arith, cuts-length x.w x.p x.q i, v.0) in
    let m : length (done ++ up) ≡ o + z = simp length-append (omega (arith, n, cut-length x.w (x.p + i) (x.q + i) v0 v1, e)) in
    let first : c.put_cut.new.out ≡ over old (done ++ up) = c.put_cut.ensures ∙ rw v.2 (over-more old done up o n) in
    let second : c.put_cut-in-loop-i.new.out ≡ over old ((done ++ up) ++ down) = c.put_cut-in-loop-i.ensures ∙ rw first (over-more old (done ++ up) down (o + z) m) in (
      omega (arith, v.0, e),
      c.put_cut-in-loop-i.auto.out ∙ c.put_cut.auto.out ∙ v.1,
      second ∙ ap (over old) (sym (cuts-more x.w x.p x.q i)),
    )
