-- What a visit over words gives back.
--   tells r      == what the reply r says: its piece counts only where one survives
--   survives p   == the walk of a piece that no cut meets
--   Pays k a r   == the reply r says what paying a walk of k pieces in which nothing survives comes to
--   InBytes r o  == the outcome o is the reply r with its piece in bytes
use Rattle.std.specs.Prelude.{ℕ, ◌≡◌, List}
use Rattle.model.specs.Cube.{Cube}
use Rattle.model.specs.Walk.{piece, Found}
use Rattle.format.specs.Bytes.{codes}
use Rattle.visits.specs.Settle.{Said, kept, settle}
use Rattle.visits.specs.Words.{cube_of_words}
use Rattle.visits.specs.Memory.{Finds}
use Rattle.visits.specs.declared.allowance.Allowance.{Allowance}
use Rattle.visits.specs.declared.allowance.Outcome.{Outcome}

abbrev pub tells : Outcome (List ℕ) → Said
tells r = record { allowance = r.allowance; verdict = r.verdict; piece = kept r.verdict (cube_of_words r.piece) }

abbrev pub survives : Cube → Found
survives p = record { pieces = 1; survivor = piece p }

abbrev pub Pays : ℕ → Allowance → Outcome (List ℕ) → Type 0
Pays k a r = (u : Found) → Finds k u → tells r ≡ settle a u

pub record InBytes (r o : Outcome (List ℕ)) : Type 0 where
  pub allowance : o.allowance ≡ r.allowance
  pub verdict : o.verdict ≡ r.verdict
  pub piece : codes o.piece ≡ cube_of_words r.piece
