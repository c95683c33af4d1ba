-- The positions of two fields that have cuts.
--   PairsOf w p q n x == x are those of two fields of n positions, at p and at q
use Rattle.std.specs.Prelude.{ℕ, ◌≡◌}
use Rattle.fields.specs.Equality.{pairs}
use Rattle.fields.specs.declared.equality.Pairs.{Pairs}

pub record PairsOf (w p q n : ℕ) (x : Pairs) : Type 0 where
  pub wide : x.w ≡ w
  pub one : x.p ≡ p
  pub other : x.q ≡ q
  pub some : x.n ≡ pairs p q n
