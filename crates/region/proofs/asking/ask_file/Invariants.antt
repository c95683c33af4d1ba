-- `region::asking::ask_file` meets its contract. The loop's invariant: `holder` is the first of the records passed that holds the header.
use Prim.Native.Nat.{◌-◌}
use mathlib.Core.Path.{◌≡◌}
use lib.ListN.{length}
use Rattle.format.specs.Records.{width_of}
use Rattle.region.specs.Asked.{holder_of, first_record}
use Rattle.region.specs.Reached.{passed}
use Rattle.region.proofs.asking.ask_file.Given as goal

abbrev pub invariant-loop-difference : goal.invariant-loop-difference
invariant-loop-difference l =
    (l.records.file.now ≡ l.s) × (holder_of l.holder ≡ first_record (width_of l.s) l.h l.s (passed l.s l.records.count))

abbrev pub decreases-loop-difference : goal.decreases-loop-difference
decreases-loop-difference l = length l.s - l.records.place
