-- A piece begun and made.
--   begun-own, begun-none, begun-met    the base as it is; none; or met with a cube
--   made-none, made-omitted, made-piece    there is no base, so no piece; a cut of the first stretch covers the base; the piece tidied
--   record-out, record-put-behind    the record of a piece that does not fit, and one that does
use Prim.Native.Nat.{ℕ, ◌+◌, ◌-◌, ◌*◌, ◌≤◌, ◌<◌}
use native.Mathlib.Omega.{arith}
use mathlib.Core.Path.{◌≡◌, refl, sym, ap, ◌∙◌}
use mathlib.Core.List.{List, [], ◌++◌, map, append-nil}
use mathlib.Core.Bool.{true, false}
use lib.ListN.{length, get_or, take, drop, length-take, length-drop}
use borrow.Rule.Slice.PartMut.{put_mid}
use lib.Seq.{take_at, take_all}
use Rattle.std.proofs.Common.{Option, Some, None}
use Rattle.model.specs.Cube.{meet, shares}
use Rattle.model.specs.Difference.{less}
use Rattle.model.specs.Tidy.{tidy_from, tidy_region}
use Rattle.format.specs.Limits.{widest_cube, most_cuts, taken_cuts}
use Rattle.format.specs.Bytes.{codes}
use Rattle.format.specs.Records.{front_len, difference_bytes}
use Rattle.cube.specs.Pair.{and_bytes, and_into}
use Rattle.cube.specs.Row.{slices}
use Rattle.cube.proofs.Codes.{codes-and, length-and}
use Rattle.cube.proofs.Pairs.{into-over}
use Rattle.cube.proofs.Rows.{slices-cubes}
use Rattle.cube.proofs.Wholes.{whole_part, part_length}
use Rattle.cube.specs.Whole.{cube_of, whole_at, wholes_at}
use Rattle.cube.specs.Lay.{put}
use Rattle.cube.proofs.Laying.{put-front, tail-back}
use Rattle.region.specs.Writing.{longest_record, record_len, put_record}
use Rattle.region.proofs.Writing.{all-bytes, cubes-few, record-len, record-longest, record-put, record-length}
use Rattle.algebra.specs.Tidied.{base_in, kept_in, difference_in, onward, held, Taken, PutBehind}
use Rattle.algebra.specs.Stops.{bases_at, bases_of, pieces_of, begun, Begun, MadeOf}
use Rattle.algebra.specs.declared.piece.Piece.{Piece}
use Rattle.algebra.specs.declared.stop.Stop.{Stop}

-- the piece old, begun anew with a base
module _ (old new : Piece) (base t : List ℕ) (base-long : length base ≡ old.size) (room : old.size ≤ length old.cubes) (none : new.kept ≡ 0)
    (size : new.size ≡ old.size) where
  pub begun-own : new.cubes ≡ put old.cubes 0 base → Begun (bases_at old.size (codes base) t None) old new (Some tt)
  unfolding bases_at whole_at cube_of
  begun-own e = record { bases = rw (size, e, put-front old.cubes base old.size base-long room); none = none; size = size }

  module _ (at : ℕ) (fits : at + old.size ≤ length t) where
    pub begun-none : false ≡ shares (codes base) (codes (take (at + old.size - at) (drop at t)))
        → Begun (bases_at old.size (codes base) t (Some at)) old new None
    unfolding bases_at
    begun-none e = record { bases = rw (← rw (whole_part old.size t at) at e); none = none; size = size }

    pub begun-met : true ≡ shares (codes base) (codes (take (at + old.size - at) (drop at t)))
        → new.cubes ≡ and_into base (take (at + old.size - at) (drop at t)) old.cubes → Begun (bases_at old.size (codes base) t (Some at)) old new (Some tt)
    unfolding bases_at whole_at cube_of
    begun-met e n =
        let cube = take (at + old.size - at) (drop at t) in
        let l : length base ≡ length cube = base-long ∙ part_length old.size t at fits in
        let bytes : take old.size new.cubes ≡ and_bytes base cube =
        rw (n, into-over base cube old.cubes l (rw base-long room)) (take_at (and_bytes base cube) _ old.size (length-and base cube l ∙ base-long)) in
        let met : codes (take old.size new.cubes) ≡ meet (codes base) (codes cube) = rw bytes (codes-and base cube l) in
        record { bases = rw (← rw (whole_part old.size t at) at e, size, met, whole_part old.size t at); none = none; size = size }

held-onward : (p : Piece) (m : Option Unit) → onward p m [] ≡ held p m
unfolding onward tidy_from
held-onward p None = refl
held-onward p (Some u) = refl

-- the rest of bytes, as it is lent, and the row of cubes in it
lent-row : (q : ℕ) (s : List ℕ) (at n : ℕ) → map codes (slices q (take (length s - at) (drop at s)) n) ≡ wholes_at q s at n
lent-row q s at n =
    let l : length (drop at s) ≤ length s - at = simp length-drop (omega arith) in
    rw (take_all (length s - at) (drop at s) l) (slices-cubes q s at n)

-- the piece old, made anew: it begins with the base of a difference
module _ (base : List ℕ) (row : List (List ℕ)) (t : List ℕ) (p : Stop) (old one : Piece) (m : Option Unit)
    (start : Begun (bases_at old.size (codes base) t p.meets) old one m) where
  bases-are : begun one m ≡ bases_of old.size (less (codes base) (map codes row)) t p
  unfolding bases_of
  bases-are = start.bases

  pub made-none : m ≡ None → MadeOf (less (codes base) (map codes row)) t p old one None
  made-none e = record { tidied = rw (← bases-are, e); size = start.size }

  -- its cuts are taken
  module _ (e : m ≡ Some tt) (two : Piece) (n : Option Unit) (first : Taken one (map codes row) two n) where
    size-two : two.size ≡ old.size
    size-two = first.size ∙ start.size

    begins : tidy_region (pieces_of old.size (less (codes base) (map codes row)) t p) ≡ onward two n (wholes_at old.size t p.from p.cuts)
    unfolding wholes_at
    begins =
        let empty : kept_in one ≡ [] = rw start.none in
        rw (← bases-are, e, append-nil (tidy_from (base_in one) [] (map codes row ++ wholes_at old.size t p.from p.cuts)))
        (rw empty at (first.goes (wholes_at old.size t p.from p.cuts)))

    pub made-omitted : n ≡ None → MadeOf (less (codes base) (map codes row)) t p old two None
    unfolding onward
    made-omitted k = record { tidied = sym (rw k at begins); size = size-two }

    -- and then those of the stop
    module _ (k : n ≡ Some tt) (three : Piece) (o : Option Unit)
        (second : Taken two (map codes (slices old.size (take (length t - p.from) (drop p.from t)) p.cuts)) three o) where
      pub made-piece : MadeOf (less (codes base) (map codes row)) t p old three o
      unfolding onward
      made-piece =
          let cuts = wholes_at old.size t p.from p.cuts in
          let all = rw (lent-row old.size t p.from p.cuts, append-nil cuts) at (second.goes []) in
          record { tidied = sym (rw k at begins ∙ all ∙ held-onward three o); size = second.size ∙ size-two }

-- the record of a piece, which takes r bytes, behind o bytes of a buffer
module _ (p : Piece) (few : p.kept ≤ most_cuts) (whole : length p.cubes ≡ (taken_cuts + 1) * widest_cube) (bytes : (i : ℕ) → get_or p.cubes i 0 < 256) (o r : ℕ)
    (is : r ≡ record_len p.kept p.size) (out : List ℕ) where
  cubes-there : (p.kept + 1) * p.size ≤ length p.cubes
  cubes-there = omega (arith, cubes-few p.kept p.size few p.narrow, whole)

  ends : o + r ≡ o + length (difference_bytes (4 * p.size) (difference_in p))
  ends = ap (λ (n : ℕ). o + n) (is ∙ sym (record-length p.kept p.size few p.narrow p.cubes (all-bytes p.cubes bytes) cubes-there))

  low : o + r ≤ o + longest_record
  low = omega (arith, is, record-longest p.kept p.size few p.narrow)

  pub record-out : length out < o + r → PutBehind p o out (o + r) out
  record-out h = record { ends = ends; low = low; there = λ k. absurd (omega (arith, h, k)) }

  pub record-put-behind : (new : List ℕ) → o + r ≤ length out → new ≡ put_record (take (length out - o) (drop o out)) p.cubes p.kept p.size
      → PutBehind p o out (o + r) (put_mid o (length out - o) out new)
  record-put-behind new h e =
      let room : front_len p.kept + (p.kept + 1) * p.size ≤ length (take (length out - o) (drop o out)) =
      simp (length-take, length-drop) (omega (arith, is, record-len p.kept p.size few p.narrow)) in
      record {
        ends = ends;
        low = low;
        there = λ k. tail-back out (difference_bytes (4 * p.size) (difference_in p)) new o _ refl
            (e ∙ record-put p.kept p.size few p.narrow _ p.cubes cubes-there room (all-bytes p.cubes bytes));
      }
