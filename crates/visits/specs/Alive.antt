-- The cuts left that a piece meets, as a word: row j of the table has the digit 2 ^ j.
--   digit j x              == the digit 2 ^ j of x
--   clash v y              == v and y are two values
--   Alive cuts n p x       == of the n cuts left, x has the digits of those that the piece p meets
--   AgainstAt cuts n i v x == of the n cuts left, x has among its digits those that fix position i to another value than v
--   Against cuts n rows    == the table that has such words for position i at 2 i for the value 0, and after it for the value 1
use Rattle.std.specs.Prelude.{ℕ, suc, ◌+◌, ◌*◌, ◌/◌, ◌%◌, ◌^◌, ◌<◌, ◌≡◌, Bool, true, false, List, get_or}
use Rattle.model.specs.Cube.{Code, none, v0, v1, free, Cube, shares}
use Rattle.format.specs.Bytes.{code_of}
use Rattle.visits.specs.Opening.{bit}
use Rattle.visits.specs.Words.{row_cube}

abbrev pub digit : ℕ → ℕ → ℕ
digit j x = x / 2 ^ j % 2

abbrev pub clash : Code → Code → Bool
clash none y = false
clash v0 none = false
clash v0 v0 = false
clash v0 v1 = true
clash v0 free = false
clash v1 none = false
clash v1 v0 = true
clash v1 v1 = false
clash v1 free = false
clash free y = false

abbrev pub Alive : List (List ℕ) → ℕ → Cube → ℕ → Type 0
Alive cuts n p x = (x < 2 ^ n) × ((j : ℕ) → j < n → digit j x ≡ bit (shares p (row_cube cuts j)))

abbrev pub AgainstAt : List (List ℕ) → ℕ → ℕ → Code → ℕ → Type 0
AgainstAt cuts n i v x = (j : ℕ) → j < n → digit j x ≡ bit (clash v (get_or (row_cube cuts j) i none))

abbrev pub Against : List (List ℕ) → ℕ → List ℕ → Type 0
Against cuts n rows = (i v : ℕ) → i < 320 → v < 2 → AgainstAt cuts n i (code_of (suc v)) (get_or rows (2 * i + v) 0)
