-- What the call that hands back a cube gives.
--   WiderIs w a b r       == r is the wider of the references a and b: the very reference, or an empty part of a
use Rattle.std.specs.Prelude.{◌≡◌, List, [], ℕ}
use Rattle.std.specs.Borrow.{Bor}
use Rattle.format.specs.Calls.{first, second, neither, wider}

-- FORMAT 89, 90
pub record WiderIs (w : ℕ) (a b r : Bor (List ℕ)) : Type 0 where
  pub first : wider w a.now b.now ≡ first → r ≡ a
  pub second : wider w a.now b.now ≡ second → r ≡ b
  pub neither : wider w a.now b.now ≡ neither → (r.now ≡ []) × (r.ref_ptr ≡ a.ref_ptr)
