use Rattle.cube.proofs.row.RowDoubleEndedIterator.next_back.Goals as goal
use Rattle.cube.proofs.Rows.{slices-back, slices-fewer}

pub returns-clause-steps : goal.returns-clause-steps
returns-clause-steps c = slices-back _ _ _ c.in_ok-count.count _ _ c.in_ok-count.ensures c.split_at.ensures.back c.split_at-2.ensures.front

pub returns-clause-goes : goal.returns-clause-goes
returns-clause-goes c = record { on = λ f. (tt, tt, slices-fewer _ _ _ _ c.in_ok-count.ensures); keeps = tt; rests = λ f. tt }
