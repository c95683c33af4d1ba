-- What arithmetic on a byte says of its codes and bits: each rule is one test that antt computes at all 256 bytes.
--   gaps x          == the lower bit of each place of x that has no bit set
--   gaps-solid      a byte has no code 0 exactly when it has no such place
--   full-free       a byte is 255 exactly when all its codes are 3
--   zero_clear      a byte is 0 exactly when no bit of it is set
--   quad-codes      a byte is the byte of its four codes
use mathlib.Core.Path.{◌≡◌}
use mathlib.Core.List.{[], ◌∷◌}
use mathlib.Core.Bool.{not}
use Prim.Native.Nat.{ℕ, ◌/◌, ◌<◌}
use lib.Bits.{bit_and, bit_or, bit_xor}
use lib.Dec.{eqb, eqb→eq}
use Rattle.model.specs.Cube.{solid}
use Rattle.format.specs.Bytes.{bits, any_bit, codes, quad, all_free}
use Rattle.cube.proofs.Every.{below, agree, agree-eq}

abbrev pub gaps : ℕ → ℕ
gaps x = bit_xor (bit_and (bit_or x (x / 2)) 0x55) 0x55

pub gaps-solid : (x : ℕ) → x < 256 → eqb (gaps x) 0 ≡ solid (codes (x ∷ []))
gaps-solid x h =
    agree-eq (eqb (gaps x) 0) (solid (codes (x ∷ []))) (below 256 (λ k. agree (eqb (gaps k) 0) (solid (codes (k ∷ [])))) tt x h)

pub full-free : (x : ℕ) → x < 256 → eqb (bit_xor x 255) 0 ≡ all_free (codes (x ∷ []))
full-free x h =
    agree-eq (eqb (bit_xor x 255) 0) (all_free (codes (x ∷ []))) (below 256 (λ k. agree (eqb (bit_xor k 255) 0) (all_free (codes (k ∷ [])))) tt x h)

pub zero_clear : (x : ℕ) → x < 256 → eqb x 0 ≡ not (any_bit (bits (x ∷ [])))
zero_clear x h =
    agree-eq (eqb x 0) (not (any_bit (bits (x ∷ [])))) (below 256 (λ k. agree (eqb k 0) (not (any_bit (bits (k ∷ []))))) tt x h)

pub quad-codes : (x : ℕ) → x < 256 → quad (codes (x ∷ [])) ≡ x
quad-codes x h = eqb→eq (quad (codes (x ∷ []))) x (below 256 (λ k. eqb (quad (codes (k ∷ []))) k) tt x h)
