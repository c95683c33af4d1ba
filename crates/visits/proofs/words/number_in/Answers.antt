-- `visits::words::number_in` meets its contract.
use Rattle.visits.specs.Words.{number_in}
use native.Mathlib.Nat.{mod-lt}
use lib.Dec.{lit<}
use mathlib.Core.Path.{refl}
use lib.Bits.{and_mask}
use Rattle.visits.proofs.words.number_in.Goals as goal

pub returns : goal.returns
unfolding number_in
returns c = rw (and_mask _ 2) (refl, mod-lt _ (lit< tt))
