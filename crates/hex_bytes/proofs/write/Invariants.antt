-- `hex_bytes::write` meets its contract. The loop's invariant: the digits of the first i bytes are written.
use mathlib.Core.Path.{◌≡◌}
use lib.ListN.{take}
use Rattle.hex_bytes.specs.Digits.{with_digits}
use Rattle.hex_bytes.proofs.write.Given as goal

abbrev pub invariant-loop-i : goal.invariant-loop-i
invariant-loop-i l = l.out ≡ with_digits l.initial.out (take l.i l.s)
