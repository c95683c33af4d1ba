-- What stands in front of a record's cubes.
--   front_at s at        == the front of the record at an offset; no offset goes beyond the end of s
--   FrontIs s at f      == f is that front
--   Stands q s f        == a record of a difference stands in s with the front f, its cubes of q bytes each
--   whole_difference q s f == its difference, of whole bytes
use Rattle.std.specs.Prelude.{ℕ, ◌+◌, ◌*◌, ◌≤◌, min, ◌≡◌, List, length}
use Rattle.model.specs.Difference.{Difference, less}
use Rattle.format.specs.Limits.{most_cuts}
use Rattle.format.specs.Records.{length_at, kind_at, next_at, count_at, base_at}
use Rattle.cube.specs.Whole.{whole_at, wholes_at}
use Rattle.region.specs.declared.front.Front.{Front}

abbrev pub front_at : List ℕ → ℕ → Front
front_at s at =
    record {
      length = length_at s at;
      kind = kind_at s at;
      cuts = count_at s at;
      base = min (base_at s at) (length s);
      next = min (next_at s at) (length s);
    }

pub record FrontIs (s : List ℕ) (at : ℕ) (f : Front) : Type 0 where
  pub length : f.length ≡ (front_at s at).length
  pub kind : f.kind ≡ (front_at s at).kind
  pub cuts : f.cuts ≡ (front_at s at).cuts
  pub base : f.base ≡ (front_at s at).base
  pub next : f.next ≡ (front_at s at).next

pub record Stands (q : ℕ) (s : List ℕ) (f : Front) : Type 0 where
  pub few : f.cuts ≤ most_cuts
  pub within : f.base + (f.cuts + 1) * q ≤ length s

abbrev pub whole_difference : ℕ → List ℕ → Front → Difference
whole_difference q s f = less (whole_at q s f.base) (wholes_at q s (f.base + q) f.cuts)
