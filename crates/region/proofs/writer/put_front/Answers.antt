-- `region::writer::put_front` meets its contract.
use native.Mathlib.Omega.{arith}
use mathlib.Core.Path.{◌∙◌}
use borrow.Author.Rules.{rules}
use Rattle.format.specs.Records.{front_len, front_bytes}
use Rattle.format.proofs.Reached.{reached}
use Rattle.region.proofs.Writing.{limited-out, cubes-few}
use Rattle.region.specs.Writing.{front_rows, put_front}
use Rattle.region.proofs.writer.put_front.Goals as goal

pub returns-in_default : goal.returns-in_default
unfolding put_front
returns-in_default c = limited-out c.args.k c.args.q _ _ c.in_default.ensures

pub overflow_sub-front_len : goal.overflow_sub-front_len
unfolding front_len
overflow_sub-front_len c = search rules

pub overflow_add-front_len : goal.overflow_add-front_len
unfolding front_len
overflow_add-front_len c = let e = c.in-Some.ensures in omega (arith, cubes-few c.args.k c.args.q e.0 e.1, e.2)

pub returns : goal.returns
unfolding put_front front_len front_bytes
returns c =
    let x = c.args in
    let e = c.in-Some.ensures in
    rw (c.to_le_bytes.ensures, c.front_len.ensures, e.2) at c.put.ensures ∙ reached 2 (front_rows x.out.now x.k x.q) (e.0, (e.1, tt))
