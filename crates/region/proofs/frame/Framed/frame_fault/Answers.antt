-- `region::frame::Framed::frame_fault` meets its contract.
use native.Mathlib.Omega.{arith}
use Rattle.format.proofs.Reached.{reached}
use Rattle.region.proofs.frame.Framed.frame_fault.Goals as goal

pub returns-then-end-lt2 : goal.returns-then-end-lt2
returns-then-end-lt2 c = reached 0 _ (omega (arith, c.args.self.here))

pub returns-then-end-self : goal.returns-then-end-self
returns-then-end-self c = reached 0 _ (omega (arith, c.args.self.here))

pub returns-then-end-self-2 : goal.returns-then-end-self-2
returns-then-end-self-2 c = reached 1 _ (omega (arith, c.args.self.here))

pub returns-then-self-lt2 : goal.returns-then-self-lt2
returns-then-self-lt2 c = reached 2 _ (omega (arith, c.args.self.here))

pub returns-then-self-kind : goal.returns-then-self-kind
returns-then-self-kind c = reached 3 _ (omega (arith, c.args.self.here))

pub returns : goal.returns
returns c = reached 4 _ (omega (arith, c.args.self.here))
