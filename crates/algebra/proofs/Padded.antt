-- Differences of whole bytes are those of w positions with the unused places behind them, and are written as they are.
--   bytes-padded, long-padded    what is written, and whether a difference has too many cuts
use Prim.Native.Nat.{ℕ, ◌-◌, ◌*◌}
use native.Mathlib.Omega.{arith}
use mathlib.Core.Path.{◌≡◌, refl, sym, ap, ◌∙◌}
use mathlib.Core.List.{List, [], ◌∷◌, map, append-nil}
use lib.ListN.{length, length-append, length-map, length-replicate}
use Rattle.model.specs.Cube.{Cube}
use Rattle.model.specs.Difference.{Difference, Region}
use Rattle.model.specs.Sized.{All, Sized, Good}
use Rattle.model.specs.Padding.{pad, pad_difference}
use Rattle.format.specs.Bytes.{cube_len, codes, cube_bytes, write_cube, unused}
use Rattle.format.specs.Records.{cubes_bytes, difference_bytes, differences_bytes}
use Rattle.format.specs.Told.{any_long}
use Rattle.format.proofs.Coding.{write-padded, write_bytes, codes-tell}

module _ (w : ℕ) where
  write-padded-cube : (c : Cube) → length c ≡ w → write_cube (pad (unused w) c) ≡ write_cube c
  write-padded-cube c l =
      let q = cube_len w in
      let m : length (pad (unused w) c) ≡ 4 * q = simp (length-append, length-replicate) (omega arith) in
      let n : cube_len (length (pad (unused w) c)) ≡ q = omega arith in
      let k : cube_len (length c) ≡ q = ap cube_len l in
      let e : 4 * q - length (pad (unused w) c) ≡ 0 = omega arith in
      let f : 4 * q - length c ≡ unused w = omega arith in
      let x : codes (cube_bytes q (pad (unused w) c)) ≡ pad (unused w) c =
      write-padded q (pad (unused w) c) (omega arith) ∙ rw e (append-nil (pad (unused w) c)) in
      let y : codes (cube_bytes q c) ≡ pad (unused w) c = rw f at (write-padded q c (omega arith)) in
      rw (n, k) (codes-tell (cube_bytes q (pad (unused w) c)) (cube_bytes q c) (write_bytes q (pad (unused w) c)) (write_bytes q c) (x ∙ sym y))

  cubes-padded : (cs : List Cube) → All (Sized w) cs → cubes_bytes (map (pad (unused w)) cs) ≡ cubes_bytes cs
  cubes-padded [] a = refl
  cubes-padded (c ∷ cs) a = rw (write-padded-cube c a.0.wide, cubes-padded cs a.1)

  difference-padded : (d : Difference) → Good w d → difference_bytes (4 * cube_len w) (pad_difference (unused w) d) ≡ difference_bytes w d
  unfolding difference_bytes
  difference-padded d g =
      let e : cube_len (4 * cube_len w) ≡ cube_len w = omega arith in
      rw (e, length-map d.cuts (pad (unused w)), write-padded-cube d.base g.base.wide, cubes-padded d.cuts g.cuts)

  pub bytes-padded : (r : Region) → All (Good w) r → differences_bytes (4 * cube_len w) (map (pad_difference (unused w)) r) ≡ differences_bytes w r
  bytes-padded [] a = refl
  bytes-padded (d ∷ r) a = rw (difference-padded d a.0, bytes-padded r a.1)

pub long-padded : (u : ℕ) (r : Region) → any_long (map (pad_difference u) r) ≡ any_long r
long-padded u [] = refl
long-padded u (d ∷ r) = rw (length-map d.cuts (pad u), long-padded u r)
