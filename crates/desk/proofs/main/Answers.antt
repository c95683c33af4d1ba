-- `desk::main` meets its contract. The buffers have their lengths by the law of a repeat: to count out so many zeros takes the checker too long.
use Rattle.std.proofs.Common.{ℕ, sym}
use lib.ListN.{length-replicate}
use Rattle.desk.proofs.main.Goals as goal

pub slice_bounds-new-end : goal.slice_bounds-new-end
slice_bounds-new-end c = sym (length-replicate {A = ℕ} 589824 0)

pub slice_bounds-new-end-2 : goal.slice_bounds-new-end-2
slice_bounds-new-end-2 c = sym (length-replicate {A = ℕ} 2097152 0)

pub slice_bounds-answer_all-end : goal.slice_bounds-answer_all-end
slice_bounds-answer_all-end c = sym (length-replicate {A = ℕ} 1048576 0)
