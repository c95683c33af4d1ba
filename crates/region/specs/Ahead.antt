-- Stepping from record to record by their lengths alone.
--   steps_by n next end x  == at most n of the numbers of the next line
--   steps next end x   == the numbers from x on, each by `next` from the one before, that are below `end`
--   ahead s at         == the offsets of the records from an offset on, as their lengths say
--   region_ahead w s at == the region of the differences at these offsets
use Rattle.std.specs.Prelude.{ℕ, zero, suc, ◌-◌, List, [], ◌∷◌, cond, leb, length}
use Rattle.model.specs.Difference.{Region}
use Rattle.format.specs.Files.{region_of}
use Rattle.region.specs.Front.{front_at}

unfoldable pub steps_by : ℕ → (ℕ → ℕ) → ℕ → ℕ → List ℕ
steps_by zero next end x = []
steps_by (suc n) next end x = cond (leb end x) [] (x ∷ steps_by n next end (next x))

-- each step goes on, so there are no more steps than numbers
abbrev pub steps : (ℕ → ℕ) → ℕ → ℕ → List ℕ
steps next end x = steps_by (end - x) next end x

abbrev pub ahead : List ℕ → ℕ → List ℕ
ahead s at = steps (λ x. (front_at s x).next) (length s) at

abbrev pub region_ahead : ℕ → List ℕ → ℕ → Region
region_ahead w s at = region_of w s (ahead s at)
