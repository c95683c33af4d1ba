-- What is written of a record.
--   limited k q x rest     == x where k cuts or cubes of q bytes are above their limits, before the tests `rest`
--   LimitedIs k q x         == x is the bytes of k + 1 cubes of q bytes, or none where k or q is above its limit
--   len_rows k q            == the tests of the next line
--   record_len k q          == the bytes of the whole record; 0 where k or q is above its limit
--   longest_record          == a record has no more bytes than this
--   record_bytes cubes k q  == the whole record: its front, then the k + 1 cubes of q bytes at the front of `cubes`, the base first
--   row_difference k q cubes == the difference of these cubes
--   front_rows, put_rows     == the tests of the next two lines
--   put_front old k q       == a buffer that held old, with the front over its own; old where it does not fit, or where k or q is above its limit
--   put_record old cubes k q == the same of the whole record; old also where there are fewer cubes
use Rattle.std.specs.Prelude.{ℕ, ◌≡◌, ◌+◌, ◌*◌, ◌≤◌, ◌<◌, ◌⊎◌, List, ◌++◌, length, take, Option, MatchOption}
use Rattle.model.specs.Difference.{Difference, less}
use Rattle.format.specs.Rows.{Rows, last, row, below, outcome}
use Rattle.format.specs.Limits.{widest_cube, most_cuts}
use Rattle.format.specs.Records.{front_len, front_bytes}
use Rattle.cube.specs.Lay.{put}
use Rattle.cube.specs.Whole.{whole_at, wholes_at}

abbrev pub limited : {A : Type 0} → ℕ → ℕ → A → Rows A → Rows A
limited k q x rest = row (below most_cuts k) x (row (below widest_cube q) x rest)

abbrev pub LimitedIs : ℕ → ℕ → Option ℕ → Type 0
LimitedIs k q x = MatchOption x ((most_cuts < k) ⊎ (widest_cube < q)) (λ n. (k ≤ most_cuts) × (q ≤ widest_cube) × (n ≡ (k + 1) * q))

abbrev pub len_rows : ℕ → ℕ → Rows ℕ
len_rows k q = limited k q 0 (last (front_len k + (k + 1) * q))

unfoldable pub record_len : ℕ → ℕ → ℕ
record_len k q = outcome (len_rows k q)

-- a record says its length in two bytes, which it does not count
abbrev pub longest_record : ℕ
longest_record = 2 + 65535

abbrev pub record_bytes : List ℕ → ℕ → ℕ → List ℕ
record_bytes cubes k q = front_bytes k q ++ take ((k + 1) * q) cubes

abbrev pub row_difference : ℕ → ℕ → List ℕ → Difference
row_difference k q cubes = less (whole_at q cubes 0) (wholes_at q cubes q k)

abbrev pub front_rows : List ℕ → ℕ → ℕ → Rows (List ℕ)
front_rows old k q = limited k q old (last (put old 0 (front_bytes k q)))

unfoldable pub put_front : List ℕ → ℕ → ℕ → List ℕ
put_front old k q = outcome (front_rows old k q)

abbrev pub put_rows : List ℕ → List ℕ → ℕ → ℕ → Rows (List ℕ)
put_rows old cubes k q = limited k q old (row (below (length cubes) ((k + 1) * q)) old (last (put old 0 (record_bytes cubes k q))))

unfoldable pub put_record : List ℕ → List ℕ → ℕ → ℕ → List ℕ
put_record old cubes k q = outcome (put_rows old cubes k q)
