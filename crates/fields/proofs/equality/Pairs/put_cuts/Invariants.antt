-- `fields::equality::Pairs::put_cuts` meets its contract: the cuts of each pair passed are written.
use Rattle.std.proofs.Common.{◌≡◌, ◌*◌, length}
use Rattle.model.specs.Fields.{unequal}
use Rattle.format.specs.Bytes.{cube_len}
use Rattle.format.specs.Records.{cubes_bytes}
use Rattle.format.specs.Told.{over}
use Rattle.fields.proofs.equality.Pairs.put_cuts.Given as goal

abbrev pub invariant-loop-i : goal.invariant-loop-i
invariant-loop-i l = let x = l.fn.self in
    (l.o ≡ 2 * l.i * cube_len x.w) × (length l.out ≡ length l.initial.out) × (l.out ≡ over l.initial.out (cubes_bytes (unequal x.w x.p x.q l.i)))
