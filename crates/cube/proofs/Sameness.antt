-- Whether cubes are the same, byte by byte.
--   same-bytes     bytes are equal exactly when the cubes that they hold are the same
use Prim.Native.Nat.{ℕ}
use mathlib.Core.Path.{◌≡◌, refl, sym}
use mathlib.Core.List.{List}
use mathlib.Core.Bool.{Bool, true, false}
use lib.Dec.{eqb}
use lib.Pointwise.{pointwise, bytes_decides}
use Rattle.model.specs.Cube.{Cube, same}
use Rattle.model.proofs.Cubes.{same-is, same_self}
use Rattle.format.specs.Bytes.{Bytes, codes}
use Rattle.format.proofs.Coding.{codes-tell}

not_same : (a b : Cube) → (a ≡ b → ⊥) → same a b ≡ false
not_same a b n = go (same a b) refl
  where
    go : (t : Bool) → same a b ≡ t → t ≡ false
    go true e = absurd (n (same-is a b e))
    go false e = refl

pub same-bytes : (a b : List ℕ) → Bytes a → Bytes b → pointwise eqb a b ≡ same (codes a) (codes b)
same-bytes a b ha hb = go (pointwise eqb a b) refl
  where
    go : (t : Bool) → pointwise eqb a b ≡ t → t ≡ same (codes a) (codes b)
    go true e = rw ((bytes_decides a b).0 e, same_self (codes b))
    go false e = sym (not_same (codes a) (codes b) (λ f. cc (e, (bytes_decides a b).1 (codes-tell a b ha hb f))))
