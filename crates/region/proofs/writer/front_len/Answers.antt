-- `region::writer::front_len` meets its contract.
use mathlib.Core.Path.{refl}
use Rattle.format.specs.Records.{front_len}
use Rattle.region.proofs.writer.front_len.Goals as goal

pub returns : goal.returns
unfolding front_len
returns c = refl
