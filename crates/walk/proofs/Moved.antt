-- Cuts that are copied elsewhere, and the meet of two cubes as a piece.
--   cuts-gathered              cuts that are copied, and one cut that is copied behind them
--   met-piece                  the meet of two cubes of q bytes, written over the front of a piece
use Prim.Native.Nat.{ℕ, ◌+◌, ◌*◌, ◌≤◌}
use native.Mathlib.Nat.{zero-add}
use native.Mathlib.Omega.{arith}
use mathlib.Core.Path.{◌≡◌, sym, ap, ap₂, ◌∙◌}
use mathlib.Core.List.{List, [], ◌∷◌, ◌++◌, map}
use lib.ListN.{length, take, drop}
use lib.Seq.{take_at, length-take-le}
use Rattle.model.specs.Cube.{Cube, meet}
use Rattle.format.specs.Bytes.{codes}
use Rattle.format.specs.Told.{over}
use Rattle.cube.specs.Pair.{and_bytes, and_into}
use Rattle.cube.proofs.Codes.{codes-and, length-and}
use Rattle.cube.proofs.Pairs.{into-over}
use Rattle.cube.specs.Whole.{cube_of, whole_at}
use Rattle.cube.specs.Lay.{laid, put}
use Rattle.cube.specs.Row.{slices}
use Rattle.cube.proofs.Laying.{put-fits, length_over, front-laid, here-laid}
use Rattle.cube.proofs.Rows.{slices-cubes}
use Rattle.cube.proofs.Wholes.{wholes-more, wholes-same}

module _ (q n : ℕ) (bytes base old mid new : List ℕ) (cuts : n * q ≤ length bytes) (cut : length base ≡ q) (fits : n * q + q ≤ length old)
    (one : mid ≡ put old 0 (take (n * q) bytes)) (two : new ≡ put mid (n * q) base) where
  first : length (take (n * q) bytes) ≡ n * q
  first = length-take-le (n * q) bytes cuts

  laid-first : mid ≡ over old (take (n * q) bytes)
  laid-first = one ∙ put-fits old 0 (take (n * q) bytes) (omega (arith, first))

  as_long : length mid ≡ length old
  as_long = ap length laid-first ∙ length_over old (take (n * q) bytes) (omega (arith, first))

  laid-second : new ≡ laid mid (n * q) base
  laid-second = two ∙ put-fits mid (n * q) base (omega (arith, cut, as_long))

  pub cuts-gathered : map codes (slices q new (n + 1)) ≡ map codes (slices q bytes n) ++ (codes base ∷ [])
  unfolding whole_at cube_of
  cuts-gathered =
      let z : 0 + n * q ≡ n * q = zero-add (n * q) in
      let front : take (n * q) new ≡ take (n * q) bytes =
      ap (take (n * q)) laid-second ∙ front-laid mid base (n * q) (omega (arith, cut, as_long)) (n * q) (omega arith)
      ∙ ap (take (n * q)) laid-first ∙ here-laid old (take (n * q) bytes) 0 (omega (arith, first)) (n * q) first in
      let back : take q (drop (n * q) new) ≡ base =
      ap (λ (l : List ℕ). take q (drop (n * q) l)) laid-second ∙ here-laid mid base (n * q) (omega (arith, cut, as_long)) q cut in
      slices-cubes q new 0 (n + 1) ∙ wholes-more q new 0 n
      ∙ ap₂ (λ (cs : List Cube) (c : Cube). cs ++ (c ∷ [])) (wholes-same q n new bytes 0 0 front ∙ sym (slices-cubes q bytes 0 n)) (rw z (ap codes back))

pub met-piece : (q : ℕ) (a b out : List ℕ) → length a ≡ q → length b ≡ q → q ≤ length out → cube_of q (and_into a b out) ≡ meet (codes a) (codes b)
unfolding cube_of
met-piece q a b out e f h =
    let l = e ∙ sym f in
    rw (into-over a b out l (omega arith), take_at (and_bytes a b) _ q (length-and a b l ∙ e), codes-and a b l)
