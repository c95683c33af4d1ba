-- `region::record::read_record` meets its contract.
use mathlib.Core.Path.{sym}
use Rattle.format.proofs.Recording.{record_of}
use Rattle.region.proofs.Differences.{record-there, difference-there}
use Rattle.region.proofs.record.read_record.Goals as goal

pub at-requires : goal.at-requires
at-requires c =
    let e = c.read-record.ensures in
    record-there (rw (e.0, e.1) at c.read-record.result.here) c.args.w _ c.cube_len.ensures c.requires
    (record_of _ _ _ _ _ (sym (rw (e.0, e.1) at c.in_ok-record_fault.ensures)))

pub returns : goal.returns
returns c =
    let e = c.read-record.ensures in
    let here = rw (e.0, e.1) at c.read-record.result.here in
    (sym (rw (e.0, e.1) at c.in_ok-record_fault.ensures), difference-there here c.args.w _ c.cube_len.ensures c.at.ensures, here.next)
