-- `region::offset::seek` meets its contract. The loop's invariant: the offset sought is as many records on as the loop has turns left.
use Prim.Native.Nat.{◌-◌}
use mathlib.Core.Path.{◌≡◌}
use lib.ListN.{length, get_or}
use Rattle.format.specs.Records.{first_at}
use Rattle.region.specs.Ahead.{ahead}
use Rattle.region.proofs.offset.seek.Given as goal

abbrev pub invariant-loop : goal.invariant-loop
invariant-loop l = get_or (ahead l.s l.at) (l.d - l.counter) (length l.s) ≡ get_or (ahead l.s (first_at l.s)) l.d (length l.s)
