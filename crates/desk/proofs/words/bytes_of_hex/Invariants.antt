-- `desk::words::bytes_of_hex` meets its contract. The bytes so far stand at the front, and from there on the word is as it was.
use Rattle.std.proofs.Common.{ℕ, ◌≡◌, ◌<◌, ◌≤◌, slice_index}
use Rattle.desk.specs.Operand.{spelled}
use Rattle.desk.proofs.words.bytes_of_hex.Given as goal

abbrev pub invariant-loop-i : goal.invariant-loop-i
invariant-loop-i l = record {
  bytes : (k : ℕ) → k < l.i → slice_index l.word k ≡ spelled l.initial.word k;
  rest : (k : ℕ) → l.i ≤ k → slice_index l.word k ≡ slice_index l.initial.word k;
}
