-- What is asked of the first bytes of two lists, for each loop over bytes, and that what is left is asked of the others.
--   free_step      every code is 3
--   set-step       no bit is set
--   shares-step    two cubes share a header
--   within_step    the first cube lies in the second
use mathlib.Core.Path.{◌≡◌, refl, sym, ap, ◌∙◌}
use mathlib.Core.List.{List, [], ◌∷◌}
use mathlib.Core.Bool.{Bool, true, false, not, ◌&&◌, ◌||◌, or_assoc}
use Prim.Native.Nat.{ℕ, ◌<◌}
use native.Mathlib.Omega.{arith}
use lib.Bits.{bit_and, bit_xor, and_le_l}
use lib.Dec.{eqb}
use Rattle.model.specs.Cube.{shares, within}
use Rattle.format.specs.Bytes.{bits, any_bit, codes, all_free}
use Rattle.cube.proofs.Octets.{gaps, gaps-solid, full-free, zero_clear}
use Rattle.cube.proofs.Codes.{free-append, shares-byte, within-byte}
use Rattle.cube.proofs.Loops.{xor-zero}

not-or : (a b : Bool) → not (a || b) ≡ not a && not b
not-or true b = refl
not-or false b = refl

pub free_step : (x : ℕ) (a : List ℕ) → x < 256 → all_free (codes (x ∷ a)) ≡ eqb (bit_xor x 255) 0 && all_free (codes a)
free_step x a h = free-append (codes (x ∷ [])) (codes a) ∙ ap (λ (t : Bool). t && all_free (codes a)) (sym (full-free x h))

pub set-step : (x : ℕ) (a : List ℕ) → x < 256 → not (any_bit (bits (x ∷ a))) ≡ eqb x 0 && not (any_bit (bits a))
set-step x a h = simp (zero_clear x h, ← not-or, or_assoc)

pub shares-step : (x y : ℕ) (a b : List ℕ) → x < 256 → shares (codes (x ∷ a)) (codes (y ∷ b)) ≡ eqb (gaps (bit_and x y)) 0 && shares (codes a) (codes b)
shares-step x y a b h =
    let z : bit_and x y < 256 = omega (arith, and_le_l x y) in
    shares-byte x y a b ∙ ap (λ (t : Bool). t && shares (codes a) (codes b)) (sym (gaps-solid (bit_and x y) z))

pub within_step : (x y : ℕ) (a b : List ℕ) → x < 256
    → within (codes (x ∷ a)) (codes (y ∷ b)) ≡ eqb (bit_xor x (bit_and x y)) 0 && within (codes a) (codes b)
within_step x y a b h = within-byte x y a b h ∙ ap (λ (t : Bool). t && within (codes a) (codes b)) (sym (xor-zero x (bit_and x y)))
