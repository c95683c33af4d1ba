-- Accepted cubes: what is asked of their bytes is asked of the cubes that they read as.
--   lent-clean      an accepted lent cube has its length, and no fault
--   bytes-all       numbers that are each below 256 are bytes
--   read-shares, read-lies     sharing a header and lying in
--   read-meet       the AND of the bytes is what writing the meet writes
use mathlib.Core.Path.{◌≡◌, sym, ap₂, ◌∙◌}
use mathlib.Core.List.{List, [], ◌∷◌}
use Prim.Native.Nat.{ℕ, suc, ◌<◌}
use native.Mathlib.Omega.{arith}
use lib.Bits.{and_le_l}
use lib.ListN.{length, get_or}
use Rattle.model.specs.Cube.{meet, shares, within}
use Rattle.model.specs.Padding.{pad}
use Rattle.model.proofs.Padding.{meet-pad, shares-pad, within-pad}
use Rattle.model.proofs.Cubes.{length_meet}
use Rattle.format.specs.Bytes.{Bytes, cube_len, codes, read_cube, cube_bytes, write_cube, cube_fault, lent_rows, lent_fault, unused}
use Rattle.format.proofs.Reached.{clean}
use Rattle.format.proofs.Coding.{read_length, read-padded, write-padded, write_bytes, codes-tell}
use Rattle.cube.specs.Pair.{lies_in, and_bytes}
use Rattle.cube.proofs.Codes.{codes-and}
use Rattle.cube.proofs.Pairs.{lies_within}
use Rattle.cube.proofs.Faults.{lent-cube}

pub lent-clean : (w : ℕ) (c : List ℕ) → lent_fault w c ≡ 0 → (length c ≡ cube_len w) × (cube_fault w c ≡ 0)
unfolding lent_fault
lent-clean w c e =
    let l = (clean (lent_rows w c) (omega arith) e).0 in
    (l, lent-cube w c l ∙ e)

pub bytes-all : (c : List ℕ) → ((i : ℕ) → get_or c i 0 < 256) → Bytes c
bytes-all [] h = tt
bytes-all (x ∷ c) h = (h 0, bytes-all c (λ i. h (suc i)))

bytes-and : (a b : List ℕ) → Bytes a → Bytes (and_bytes a b)
bytes-and [] b h = tt
bytes-and (x ∷ a) [] h = tt
bytes-and (x ∷ a) (y ∷ b) h = let l = h.0 in (omega (arith, and_le_l x y), bytes-and a b h.1)

module _ (w : ℕ) (a b : List ℕ) (la : length a ≡ cube_len w) (lb : length b ≡ cube_len w) (fa : cube_fault w a ≡ 0) (fb : cube_fault w b ≡ 0) where
  one-length : length (read_cube w a) ≡ length (read_cube w b)
  one-length = read_length w a la ∙ sym (read_length w b lb)

  pub read-shares : shares (codes a) (codes b) ≡ shares (read_cube w a) (read_cube w b)
  read-shares =
      ap₂ shares (read-padded w a la fa) (read-padded w b lb fb) ∙ shares-pad (unused w) (read_cube w a) (read_cube w b) one-length

  pub read-lies : lies_in a b ≡ within (read_cube w a) (read_cube w b)
  read-lies =
      sym (lies_within a b (la ∙ sym lb)) ∙ ap₂ within (read-padded w a la fa) (read-padded w b lb fb)
      ∙ within-pad (unused w) (read_cube w a) (read_cube w b) one-length

  pub read-meet : Bytes a → write_cube (meet (read_cube w a) (read_cube w b)) ≡ and_bytes a b
  read-meet h =
      let m = meet (read_cube w a) (read_cube w b) in
      let n : length m ≡ w = length_meet (read_cube w a) (read_cube w b) one-length ∙ read_length w a la in
      let padded : codes (and_bytes a b) ≡ pad (unused w) m =
      codes-and a b (la ∙ sym lb) ∙ ap₂ meet (read-padded w a la fa) (read-padded w b lb fb) ∙ meet-pad (unused w) (read_cube w a) (read_cube w b) one-length in
      rw n
      (codes-tell (cube_bytes (cube_len w) m) (and_bytes a b) (write_bytes (cube_len w) m) (bytes-and a b h)
      (write-padded (cube_len w) m (omega arith) ∙ rw n (sym padded)))
