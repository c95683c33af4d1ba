-- Demand 3 of a call that walks.
--   Decides w n In v ds vs Ok x == x is told by a call with the allowance n, which is accepted exactly where Ok holds and looks by the walk v for a
--                               header of w positions that In holds of: where the allowance pays for the walk, it is yes exactly where there is none
--                               and no, with one shown, exactly where there is one; it is undecided exactly where the walk has more pieces than the
--                               allowance; its count is the walk's pieces, or where it is undecided the allowance. The walk v goes over ds, differences
--                               or pieces, by the walks vs: the index of a no is that of the first of ds with a header in it, and the header shown is
--                               in that one; where it is undecided, the pieces of those before the index are within the allowance and those up to it
--                               are not, and no header is in any before it; a yes has the index of no difference
--   ceilings r               == the ceilings of the differences of r, added up
use Rattle.std.specs.Prelude.{ℕ, ◌+◌, ◌≤◌, ◌<◌, ◌≡◌, List, [], ◌∷◌, ◌↔◌, Bool, true, false}
use Rattle.model.specs.Cube.{Header}
use Rattle.model.specs.Difference.{Region, in_difference}
use Rattle.model.specs.Walk.{Found}
use Rattle.model.specs.Index.{difference_of, Passed, Unpaid}
use Rattle.model.specs.Ceiling.{ceiling}
use Rattle.answer.specs.Answer.{no_difference}
use Rattle.format.specs.Bytes.{read_header}
use Rattle.format.specs.Told.{Told}
use Rattle.format.specs.Meaning.{Shown}

pub record Decides (w n : ℕ) (In : Header → Bool) (v : Found) (ds : Region) (vs : List Found) (Ok : Type 0) (x : Told) : Type 0 where
  pub yes : (x.answer.number ≡ 1) ↔ (Ok × (v.pieces ≤ n) × ((h : Header) → In h ≡ false))
  pub no : (x.answer.number ≡ 2) ↔ (Ok × (v.pieces ≤ n) × ((h : Header) × (In h ≡ true)))
  pub shown : x.answer.number ≡ 2 → Shown w In x
  pub undecided : (x.answer.number ≡ 3) ↔ (Ok × (n < v.pieces))
  pub yes_count : x.answer.number ≡ 1 → x.answer.count ≡ v.pieces
  pub no_count : x.answer.number ≡ 2 → x.answer.count ≡ v.pieces
  pub undecided_count : x.answer.number ≡ 3 → x.answer.count ≡ n
  pub yes_index : x.answer.number ≡ 1 → x.answer.index ≡ no_difference
  pub no_index : x.answer.number ≡ 2
      → Passed ds x.answer.index × (in_difference (difference_of ds x.answer.index) (read_header w x.bytes) ≡ true)
  pub undecided_index : x.answer.number ≡ 3 → Passed ds x.answer.index × Unpaid n vs x.answer.index

abbrev pub ceilings : Region → ℕ
ceilings [] = 0
ceilings (d ∷ r) = ceiling d + ceilings r
