-- `fields::equality::Pairs::put_record` meets its contract: the front, the base and the cuts stand one behind the other.
use Prim.Native.Nat.{◌+◌, ◌-◌, ◌*◌, ◌≤◌}
use native.Mathlib.Omega.{arith}
use mathlib.Core.Path.{◌≡◌, refl, sym, ap, ◌∙◌}
use mathlib.Core.List.{◌++◌, append_assoc}
use lib.ListN.{length, take, drop, replicate, length-append, length-take, length-drop}
use borrow.Rule.Slice.PartMut.{put_mid}
use Rattle.model.specs.Cube.{free}
use Rattle.model.specs.Fields.{unequal}
use Rattle.format.specs.Limits.{widest_cube, most_cuts}
use Rattle.format.specs.Bytes.{cube_len, write_cube}
use Rattle.format.specs.Records.{cubes_bytes, front_bytes}
use Rattle.format.specs.Told.{over}
use Rattle.cube.proofs.Laying.{over-more, part-back, behind-back}
use Rattle.region.proofs.Writing.{front_length, front-put}
use Rattle.fields.proofs.Fielding.{equal-room, free_bytes, cuts-length}
use Rattle.fields.proofs.equality.Pairs.put_record.Goals as goal

pub overflow_add-cuts : goal.overflow_add-cuts
overflow_add-cuts c =
    omega (arith, (equal-room c.args.self.n c.args.self.w _ _ (length c.args.out.now) c.requires.few c.args.self.narrow c.cube_len-size.ensures c.front_len-base.ensures c.requires.room), c.well_formed)

pub slice_bounds-fill-end : goal.slice_bounds-fill-end
slice_bounds-fill-end c =
    omega (arith, (equal-room c.args.self.n c.args.self.w _ _ (length c.args.out.now) c.requires.few c.args.self.narrow c.cube_len-size.ensures c.front_len-base.ensures c.requires.room), c.put_front.auto.out)

pub slice_bounds-put_cuts-count : goal.slice_bounds-put_cuts-count
slice_bounds-put_cuts-count c =
    omega (arith, (equal-room c.args.self.n c.args.self.w _ _ (length c.args.out.now) c.requires.few c.args.self.narrow c.cube_len-size.ensures c.front_len-base.ensures c.requires.room), c.put_front.auto.out)

pub slice_bounds-put_cuts-start : goal.slice_bounds-put_cuts-start
slice_bounds-put_cuts-start c =
    omega (arith, (equal-room c.args.self.n c.args.self.w _ _ (length c.args.out.now) c.requires.few c.args.self.narrow c.cube_len-size.ensures c.front_len-base.ensures c.requires.room), c.put_front.auto.out)

pub put_cuts-requires : goal.put_cuts-requires
put_cuts-requires c =
    rw (← c.cube_len-size.ensures) (simp (length-take, length-drop) (omega (arith, (equal-room c.args.self.n c.args.self.w _ _ (length c.args.out.now) c.requires.few c.args.self.narrow c.cube_len-size.ensures c.front_len-base.ensures c.requires.room))))

pub returns : goal.returns
returns c =
    let few : 2 * c.args.self.n ≤ most_cuts = omega (arith, c.requires.few) in
    let short : cube_len c.args.self.w ≤ widest_cube = omega (arith, c.args.self.narrow) in
    let room = equal-room c.args.self.n c.args.self.w _ _ (length c.args.out.now) c.requires.few c.args.self.narrow c.cube_len-size.ensures c.front_len-base.ensures c.requires.room in
    let x = c.args.self in
    let e = c.cube_len-size.ensures in
    let o = c.front_len-base.result in
    let q = c.cube_len-size.result in
    let old = c.args.out.now in
    let front = front_bytes (2 * x.n) (cube_len x.w) in
    let base = write_cube (replicate x.w free) in
    let cuts = cubes_bytes (unequal x.w x.p x.q x.n) in
    let fore : length front ≡ o = front_length (2 * x.n) (cube_len x.w) ∙ sym c.front_len-base.ensures in
    let first = c.put_front.new.out in
    let put : first ≡ over old front =
    rw e at c.put_front.ensures ∙ front-put (2 * x.n) (cube_len x.w) few short old (omega (arith, room, c.front_len-base.ensures)) in
    let ys = c.fill.new.c in
    let n = o + q - o in
    let size : length (take n (drop o first)) ≡ q = simp (length-take, length-drop) (omega (arith, c.put_front.auto.out, room)) in
    let filled : ys ≡ base = c.fill.ensures ∙ rw (size ∙ e) (free_bytes x.w) in
    let long : length ys ≡ q = c.fill.auto.c ∙ size in
    let m : length base ≡ q = ap length (sym filled) ∙ long in
    let mid = put_mid o n first ys in
    let second : mid ≡ over old (front ++ base) =
    part-back first ys o n (long ∙ omega arith) ∙ rw (put, filled) (over-more old front base o fore) in
    let last = rw (← e) at (cuts-length x.w x.p x.q x.n) in
    behind-back old (front ++ base) cuts c.put_cuts.new.out mid (o + q) _ (simp length-append (omega (arith, fore, m))) second refl
    (omega (arith, last, room)) (λ h. c.put_cuts.ensures)
    ∙ ap (over old) (append_assoc front base cuts)
