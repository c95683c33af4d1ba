-- Bytes laid into a buffer.
--   laid old o new    == a buffer that held old, with new written over it from an offset on
--   put old o new     == the same where new fits there whole, else old
use Rattle.std.specs.Prelude.{ℕ, ◌+◌, List, ◌++◌, cond, leb, length, take, drop}
use Rattle.format.specs.Told.{over}

abbrev pub laid : List ℕ → ℕ → List ℕ → List ℕ
laid old o new = take o old ++ over (drop o old) new

unfoldable pub put : List ℕ → ℕ → List ℕ → List ℕ
put old o new = cond (leb (o + length new) (length old)) (laid old o new) old
