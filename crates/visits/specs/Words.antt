-- Cubes of 320 positions in ten words, 32 places to a word, the first place of the highest weight.
--   place_at x k        == the number of the code at place k of the word x
--   number_in ws i      == the number of the code at position i of the words ws
--   code_in ws i        == that code
--   tabled n f i       == the n codes f i, f (i + 1), ..
--   cube_of_words ws     == the cube in ten words
--   row_cube cuts j     == the cube in row j of a table of words
--   cuts_below cuts n   == the cubes of the rows n - 1, .., 1, 0: the n cuts that are left, the next one first
--   Openings x y t     == the word t has the digit 1 of base 4 at each place where the cut's word y opens the piece's word x, else 0
--   GivenWord x k v r  == the word r is the word x with the code v at place k
--   either_code x y     == what the code x or the code y admits
use Rattle.std.specs.Prelude.{ℕ, zero, suc, ◌-◌, ◌*◌, ◌/◌, ◌%◌, ◌^◌, ◌<◌, ◌≡◌, List, [], ◌∷◌, get_or}
use Rattle.model.specs.Cube.{Code, none, v0, v1, free, Cube}
use Rattle.model.specs.Walk.{opens}
use Rattle.format.specs.Bytes.{code_of}
use Rattle.visits.specs.Opening.{bit}

abbrev pub place_at : ℕ → ℕ → ℕ
place_at x k = x / 2 ^ (62 - 2 * k) % 4

unfoldable pub number_in : List ℕ → ℕ → ℕ
number_in ws i = place_at (get_or ws (i / 32) 0) (i % 32)

abbrev pub code_in : List ℕ → ℕ → Code
code_in ws i = code_of (number_in ws i)

unfoldable pub tabled : ℕ → (ℕ → Code) → ℕ → Cube
tabled zero f i = []
tabled (suc n) f i = f i ∷ tabled n f (suc i)

unfoldable pub cube_of_words : List ℕ → Cube
cube_of_words ws = tabled 320 (code_in ws) 0

unfoldable pub row_cube : List (List ℕ) → ℕ → Cube
row_cube cuts j = cube_of_words (get_or cuts j [])

unfoldable pub cuts_below : List (List ℕ) → ℕ → List Cube
cuts_below cuts zero = []
cuts_below cuts (suc n) = row_cube cuts n ∷ cuts_below cuts n

abbrev pub Openings : ℕ → ℕ → ℕ → Type 0
Openings x y t = (k : ℕ) → k < 32 → place_at t k ≡ bit (opens (code_of (place_at x k)) (code_of (place_at y k)))

abbrev pub GivenWord : ℕ → ℕ → ℕ → ℕ → Type 0
GivenWord x k v r = (place_at r k ≡ v) × ((j : ℕ) → j < 32 → (j ≡ k → ⊥) → place_at r j ≡ place_at x j)

abbrev pub either_code : Code → Code → Code
either_code none y = y
either_code v0 none = v0
either_code v0 v0 = v0
either_code v0 v1 = free
either_code v0 free = free
either_code v1 none = v1
either_code v1 v0 = free
either_code v1 v1 = v1
either_code v1 free = free
either_code free y = free
