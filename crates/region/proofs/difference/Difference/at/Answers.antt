-- `region::difference::Difference::at` meets its contract: the base stands before the cuts.
use Prim.Native.Nat.{◌+◌}
use mathlib.Core.Path.{ap₂}
use Rattle.model.specs.Difference.{less}
use Rattle.region.proofs.Differences.{base-here, cuts-here, base-model, cuts-model}
use Rattle.region.proofs.difference.Difference.at.Goals as goal

pub returns : goal.returns
returns c =
    let x = c.args in
    let f = x.front in
    let base = base-here x.q x.s.now f.base _ c.split_at.ensures.front in
    let cuts = cuts-here x.q x.s.now f.base f.cuts _ c.split_at.ensures.back in
    record {
      stands = c.requires.1;
      model = ap₂ less (base-model x.q x.s.now f.base _ base) (cuts-model x.q x.s.now (f.base + x.q) f.cuts _ cuts);
      size = c.split_at.ensures.front_len;
      base = base;
      cuts = cuts;
    }
