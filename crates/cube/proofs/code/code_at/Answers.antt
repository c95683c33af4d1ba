-- `cube::code::code_at` meets its contract.
use native.Mathlib.Omega.{arith}
use Rattle.cube.proofs.Coded.{shift-code, code-none}
use Rattle.cube.specs.Code.{code_at}
use Rattle.cube.proofs.code.code_at.Goals as goal

pub returns-then-s-at : goal.returns-then-s-at
returns-then-s-at c = let x = c.args in code-none x.s.now x.at x.i (omega arith)

pub returns : goal.returns
unfolding code_at
returns c = shift-code _ c.args.i
