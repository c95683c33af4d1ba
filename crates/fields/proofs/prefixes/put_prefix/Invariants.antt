-- `fields::prefixes::put_prefix` meets its contract: each position passed is fixed to its bit.
use Prim.Native.Nat.{◌*◌}
use mathlib.Core.Path.{◌≡◌}
use lib.ListN.{length}
use Rattle.model.specs.Fields.{prefix_cube}
use Rattle.format.specs.Bytes.{bits, codes}
use Rattle.fields.proofs.prefixes.put_prefix.Given as goal

abbrev pub invariant-loop-i : goal.invariant-loop-i
invariant-loop-i l = (length l.c ≡ length l.initial.c) × (codes l.c ≡ prefix_cube (4 * length l.initial.c) l.s l.i (bits l.value))
