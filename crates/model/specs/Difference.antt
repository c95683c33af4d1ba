-- Differences and regions as sets of headers.
--   Difference         == a base and its cuts
--   less b cs          == the difference of the base b and the cuts cs
--   Region             == differences, in their order
--   any_holds cs h      == the header h is in at least one of the cubes cs
--   in_difference d h   == h is in the base and in no cut
--   in_region r h       == h is in at least one difference of r
--   Holder             == which of some differences is the first that holds a header: none, or its index, counted from 0
--   further x          == the holder x, with one difference more before all
--   first_holder r h    == the first difference of r that h is in
--   is_held x           == there is one
use Rattle.std.specs.Prelude.{ℕ, suc, List, [], ◌∷◌, Bool, true, false, cond, not, ◌&&◌, ◌||◌}
use Rattle.model.specs.Cube.{Header, Cube, holds}

-- FORMAT 6; the limits are of the bytes, and not of the sets
pub record Difference : Type 0 where
  pub base : Cube
  pub cuts : List Cube

abbrev pub less : Cube → List Cube → Difference
less b cs = record { base = b; cuts = cs }

-- FORMAT 8
abbrev pub Region : Type 0
Region = List Difference

abbrev pub any_holds : List Cube → Header → Bool
any_holds [] h = false
any_holds (c ∷ cs) h = holds c h || any_holds cs h

-- FORMAT 2, 7
abbrev pub in_difference : Difference → Header → Bool
in_difference d h = holds d.base h && not (any_holds d.cuts h)

-- FORMAT 2, 9
abbrev pub in_region : Region → Header → Bool
in_region [] h = false
in_region (d ∷ r) h = in_difference d h || in_region r h

pub data Holder : Type 0 where
  unheld : Holder
  held : ℕ → Holder

abbrev pub further : Holder → Holder
further unheld = unheld
further (held i) = held (suc i)

abbrev pub first_holder : Region → Header → Holder
first_holder [] h = unheld
first_holder (d ∷ r) h = cond (in_difference d h) (held 0) (further (first_holder r h))

abbrev pub is_held : Holder → Bool
is_held unheld = false
is_held (held i) = true
