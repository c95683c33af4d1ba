-- The refusals and their numbers (FORMAT 35 to 49).
--   number_of r == the number of the refusal r
--   code x      == the number of what x refuses, and 0 where it refuses nothing
--   Tested a x  == x is how a test ends whose answer is a: it lets pass where a is no refusal, and else it refuses with a, whose number is not 0
--   LentAs x o r == r is how the tests of the lent operand o end, whose fault, if it has one, is that of x
use Rattle.std.specs.Prelude.{ℕ, ◌≡◌, Result, Ok, Err, MatchResult}
use Rattle.answer.specs.Answer.{accepted, fault}
use Rattle.answer.specs.declared.Answer.{Answer}
use Rattle.answer.specs.declared.refusal.Refusal.{Refusal}
use Rattle.answer.specs.declared.refusal.Refusal.TheVariants.{Width, Bits, CubeLength, CodeZero, UnusedPlace, CutShort, Kind, Length, Cuts, Differences, TwoWidths, Bounds, Room, Index, Input}

abbrev pub number_of : Refusal → ℕ
number_of Width = 10
number_of Bits = 11
number_of CubeLength = 12
number_of CodeZero = 13
number_of UnusedPlace = 14
number_of CutShort = 15
number_of Kind = 16
number_of Length = 17
number_of Cuts = 18
number_of Differences = 19
number_of TwoWidths = 20
number_of Bounds = 21
number_of Room = 22
number_of Index = 23
number_of Input = 25

abbrev pub code : {A : Type 0} → Result A Refusal → ℕ
code (Ok x) = 0
code (Err r) = number_of r

abbrev pub Tested : Answer → Result Unit Answer → Type 0
Tested a x = MatchResult x (λ u. a ≡ accepted) (λ e. (e ≡ a) × ¬ (e.number ≡ 0))

abbrev pub LentAs : Result Unit Refusal → ℕ → Result Unit Answer → Type 0
LentAs x o r = MatchResult x (λ u. r ≡ Ok u) (λ e. r ≡ Err (fault (number_of e) o 0))
