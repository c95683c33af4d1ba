-- Cubes of bytes brought into words.
--   HoldsBytes P j b x    == the word x holds the codes of the j bytes of P from byte b on
--   cut_in r m            == the bytes of row m of the row r, the last cut being row 0
--   Loaded r cuts k       == the first k rows of the table are the cuts of r, with free places behind their positions
--   Entered rows c one after == for each position and value, `one` was added where the value clashes with the cut c
--   Met r p k x           == x has the digits of the cuts of r that p meets, of the first k rows
use Rattle.std.specs.Prelude.{ℕ, suc, ◌+◌, ◌-◌, ◌*◌, ◌/◌, ◌%◌, ◌^◌, ◌<◌, ◌≡◌, List, get_or, take, drop}
use Rattle.model.specs.Cube.{none, Cube, shares}
use Rattle.model.specs.Padding.{pad}
use Rattle.format.specs.Bytes.{code_of, codes}
use Rattle.cube.specs.declared.row.Row.{Row}
use Rattle.visits.specs.Opening.{bit}
use Rattle.visits.specs.Words.{row_cube}
use Rattle.visits.specs.Alive.{digit, clash}

abbrev pub HoldsBytes : List ℕ → ℕ → ℕ → ℕ → Type 0
HoldsBytes P j b x = (x < 2 ^ (8 * j)) × ((k : ℕ) → k < 4 * j → x / 2 ^ (2 * (4 * j - 1 - k)) % 4 ≡ get_or P (b + k / 4) 0 / 4 ^ (3 - k % 4) % 4)

unfoldable pub cut_in : Row → ℕ → List ℕ
cut_in r m = take r.size (drop ((r.count - 1 - m) * r.size) r.bytes.now)

abbrev pub Loaded : Row → List (List ℕ) → ℕ → Type 0
Loaded r cuts k = (m : ℕ) → m < k → row_cube cuts m ≡ pad (320 - 4 * r.size) (codes (cut_in r m))

abbrev pub Entered : List ℕ → Cube → ℕ → List ℕ → Type 0
Entered rows c one after = (i v : ℕ) → i < 320 → v < 2 → get_or after (2 * i + v) 0 ≡ get_or rows (2 * i + v) 0 + one * bit (clash (code_of (suc v)) (get_or c i none))

abbrev pub Met : Row → Cube → ℕ → ℕ → Type 0
Met r p k x = (x < 2 ^ k) × ((m : ℕ) → m < k → digit m x ≡ bit (shares p (codes (cut_in r m))))
