-- `visits::alive::digit_of` meets its contract.
use native.Mathlib.Nat.{one-mul}
use mathlib.Core.Path.{◌∙◌}
use lib.Pow.{shl_exact}
use native.Mathlib.Omega.{arith}
use Rattle.visits.proofs.alive.digit_of.Goals as goal

pub returns : goal.returns
returns c = shl_exact 1 c.args.n 64 (omega arith) (omega (arith, c.requires)) ∙ one-mul _
