-- `cube::header::spell` meets its contract: the table's rule is one test that antt computes at all 16 entries.
use mathlib.Core.List.{List, [], ◌∷◌}
use mathlib.Core.Bool.{Bool}
use Prim.Native.Nat.{ℕ}
use lib.ListN.{get_or}
use borrow.Author.Rules.{rules}
use Rattle.model.specs.Cube.{same}
use Rattle.format.specs.Bytes.{codes}
use Rattle.cube.proofs.Every.{at}
use Rattle.cube.proofs.Spelling.{four, same-T}
use Rattle.cube.proofs.header.spell.Goals as goal

spellings : List ℕ
spellings =
    0x55 ∷ 0x56 ∷ 0x59 ∷ 0x5a ∷ 0x65 ∷ 0x66 ∷ 0x69 ∷ 0x6a ∷ 0x95 ∷ 0x96 ∷ 0x99 ∷ 0x9a ∷ 0xa5 ∷ 0xa6 ∷ 0xa9 ∷ 0xaa ∷ []

right : ℕ → ℕ → Bool
right k x = same (codes (x ∷ [])) (four k)

pub returns : goal.returns
unfolding spellings right
returns c =
    same-T (codes (get_or spellings c.args.b 0 ∷ [])) (four c.args.b) (at right spellings tt c.args.b (search rules))
