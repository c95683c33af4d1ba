-- Taking the next cut of a piece.
--   same-base, same-kept     pieces with the same bytes have the same base and the same cuts
--   cut-apart, cut-covered, cut-again, cut-more   what becomes of a cut: dropped, the difference omitted, dropped, or kept behind the others
--   among-any                looking for a cut in a row
--   TakesOn old cs now ds == the cuts cs, to be taken into the piece old, come to the cuts ds, to be taken into the piece now
--   row-kept, row-omitted, row-taken    a turn of taking a row of cuts: the next taken, the base covered, none left
--   row-few                  no more cuts are kept than there are in the row
--   AllLong q bs          == the cubes bs have q bytes each
--   slices-long              those of a row have
use Prim.Native.Nat.{ℕ, zero, suc, ◌+◌, ◌*◌, ◌≤◌, ◌<◌}
use native.Mathlib.Omega.{arith}
use mathlib.Core.Path.{◌≡◌, refl, sym, ap, ap₂, ◌∙◌}
use mathlib.Core.List.{List, [], ◌∷◌, ◌++◌, map}
use mathlib.Core.Bool.{true, false, ◌||◌}
use lib.ListN.{length, take, drop, length-drop, length-map}
use native.Mathlib.Nat.{mul-le-mul}
use lib.Seq.{take_at, drop_at, take_all, length-take-le, drop-drop}
use Rattle.std.proofs.Common.{Option, Some, None}
use Rattle.std.specs.List.{list_any}
use Rattle.model.specs.Cube.{Cube, meet, shares, same}
use Rattle.model.specs.Sized.{All}
use Rattle.model.specs.Tidy.{among, tidy_from}
use Rattle.format.specs.Limits.{widest_cube, taken_cuts}
use Rattle.format.specs.Bytes.{codes}
use Rattle.cube.specs.Pair.{and_bytes, and_into}
use Rattle.cube.specs.Row.{slices}
use Rattle.cube.specs.Whole.{cube_of, whole_at, wholes_at}
use Rattle.cube.proofs.Codes.{codes-and, length-and}
use Rattle.cube.proofs.Pairs.{into-over}
use Rattle.cube.proofs.Rows.{slices-cubes, slices-length}
use Rattle.cube.proofs.Wholes.{wholes-same, wholes-more}
use Rattle.algebra.specs.Tidied.{base_in, kept_in, onward, Taken}
use Rattle.algebra.specs.declared.piece.Piece.{Piece}

-- what a cut comes to
module _ (base : Cube) (ks : List Cube) (cut : Cube) (later : List Cube) where
  tidy-apart : false ≡ shares base cut → tidy_from base ks (cut ∷ later) ≡ tidy_from base ks later
  unfolding tidy_from
  tidy-apart e = rw (← e)

  module _ (meets : true ≡ shares base cut) where
    tidy-covered : true ≡ same (meet base cut) base → tidy_from base ks (cut ∷ later) ≡ []
    unfolding tidy_from
    tidy-covered e = rw (← meets, ← e)

    module _ (other : false ≡ same (meet base cut) base) where
      tidy-again : true ≡ among (meet base cut) ks → tidy_from base ks (cut ∷ later) ≡ tidy_from base ks later
      unfolding tidy_from
      tidy-again e = rw (← meets, ← other, ← e)

      tidy-more : false ≡ among (meet base cut) ks → tidy_from base ks (cut ∷ later) ≡ tidy_from base (ks ++ (meet base cut ∷ [])) later
      unfolding tidy_from
      tidy-more e = rw (← meets, ← other, ← e)

-- pieces whose bytes begin alike
module _ (old new : Piece) (size : new.size ≡ old.size) where
  same-base : (base x y : List ℕ) → old.cubes ≡ base ++ x → new.cubes ≡ base ++ y → length base ≡ old.size
      → (base_in old ≡ codes base) × (base_in new ≡ codes base)
  unfolding whole_at cube_of
  same-base base x y e f l = (rw e (ap codes (take_at base x old.size l)), rw (f, size) (ap codes (take_at base y old.size l)))

-- the cubes of a row behind a base
row-behind : (q k : ℕ) (base bytes rest : List ℕ) → length base ≡ q → length bytes ≡ k * q
    → wholes_at q (base ++ (bytes ++ rest)) q k ≡ map codes (slices q bytes k)
row-behind q k base bytes rest l m =
    wholes-same q k (base ++ (bytes ++ rest)) bytes q 0
    (rw (drop_at base (bytes ++ rest) q l) (take_at bytes rest (k * q) m ∙ sym (take_all (k * q) bytes (omega arith))))
    ∙ sym (slices-cubes q bytes 0 k)

-- looking for a cube in a row
among-any : (c : List ℕ) (bs : List (List ℕ)) → list_any (λ b. same (codes c) (codes b)) bs ≡ among (codes c) (map codes bs)
among-any c [] = refl
among-any c (b ∷ bs) = ap (λ t. same (codes c) (codes b) || t) (among-any c bs)

-- the buffer has room for one cut more
slot-room : (k q rest slot : ℕ) → k < taken_cuts → q ≤ widest_cube → slot + k * q ≡ rest → rest + q ≡ (taken_cuts + 1) * widest_cube → q ≤ slot
slot-room k q rest slot h l m n = let e : k + 2 ≤ taken_cuts + 1 = omega arith in omega (arith, mul-le-mul {n₂ = taken_cuts + 1} {m₂ = widest_cube} e l)

-- the piece old, whose bytes are the base, those of its cuts, and others, over which a cut was met with the base
module _ (old new : Piece) (base rest bytes slot now cut : List ℕ) (parts : old.cubes ≡ base ++ rest) (others : rest ≡ bytes ++ slot)
    (base-long : length base ≡ old.size) (rest-long : length rest + old.size ≡ length old.cubes) (row-long : length bytes ≡ old.kept * old.size)
    (slot-long : length slot + old.kept * old.size ≡ length rest) (cut-long : length cut ≡ old.size) (more : old.kept < taken_cuts)
    (whole : length old.cubes ≡ (taken_cuts + 1) * widest_cube) (put : now ≡ and_into base cut slot) (is : new.cubes ≡ base ++ (bytes ++ now))
    (size : new.size ≡ old.size) where
  was : old.cubes ≡ base ++ (bytes ++ slot)
  was = parts ∙ ap (λ (x : List ℕ). base ++ x) others

  room : old.size ≤ length slot
  room = slot-room old.kept old.size (length rest) (length slot) more old.narrow slot-long (rest-long ∙ whole)

  bases : (base_in old ≡ codes base) × (base_in new ≡ codes base)
  bases = same-base old new size base (bytes ++ slot) (bytes ++ now) was is base-long

  kept-was : kept_in old ≡ map codes (slices old.size bytes old.kept)
  kept-was = rw was (row-behind old.size old.kept base bytes slot base-long row-long)

  kept-is : wholes_at new.size new.cubes new.size old.kept ≡ map codes (slices old.size bytes old.kept)
  kept-is = rw (size, is) (row-behind old.size old.kept base bytes now base-long row-long)

  pub met-is : codes (take old.size now) ≡ meet (codes base) (codes cut)
  met-is =
      let l : length base ≡ length cut = omega arith in
      let n = length-and base cut l in
      rw (put, into-over base cut slot l (omega (arith, room)))
      (ap codes (take_at (and_bytes base cut) (drop (length (and_bytes base cut)) slot) old.size (omega (arith, n))) ∙ codes-and base cut l)

  module _ (meets : true ≡ shares (codes base) (codes cut)) where
    pub cut-covered : true ≡ same (codes (take old.size now)) (codes base) → new.kept ≤ old.kept + 1 → Taken old (codes cut ∷ []) new None
    unfolding onward
    cut-covered e k =
        record {
          goes = λ later. rw bases.0 (tidy-covered (codes base) (kept_in old) (codes cut) later meets (rw met-is at e));
          few = k;
          size = size;
        }

    module _ (other : false ≡ same (codes (take old.size now)) (codes base)) where
      pub cut-again : true ≡ list_any (λ b. same (codes (take old.size now)) (codes b)) (slices old.size bytes old.kept) → new.kept ≡ old.kept
          → Taken old (codes cut ∷ []) new (Some tt)
      unfolding onward
      cut-again e k =
          record {
            goes = λ later. rw (bases.0, bases.1, kept-was, k, kept-is)
                (tidy-again (codes base) (map codes (slices old.size bytes old.kept)) (codes cut) later meets (rw met-is at other)
                (rw (among-any (take old.size now) (slices old.size bytes old.kept), met-is) at e));
            few = omega arith;
            size = size;
          }

      pub cut-more : false ≡ list_any (λ b. same (codes (take old.size now)) (codes b)) (slices old.size bytes old.kept) → new.kept ≡ old.kept + 1
          → Taken old (codes cut ∷ []) new (Some tt)
      unfolding onward
      cut-more e k =
          let here : whole_at new.size new.cubes (new.size + old.kept * new.size) ≡ meet (codes base) (codes cut) =
          unfold whole_at cube_of in
          rw (
            is,
            ← drop-drop (old.kept * new.size) new.size (base ++ (bytes ++ now)),
            drop_at base (bytes ++ now) new.size (base-long ∙ sym size),
            drop_at bytes now (old.kept * new.size) (rw size row-long),
            size,
          ) met-is in
          let more : kept_in new ≡ map codes (slices old.size bytes old.kept) ++ (meet (codes base) (codes cut) ∷ []) =
          rw k (wholes-more new.size new.cubes new.size old.kept ∙ ap₂ (λ (ks : List Cube) (c : Cube). ks ++ (c ∷ [])) kept-is here) in
          record {
            goes = λ later. rw (bases.0, bases.1, kept-was, more)
                (tidy-more (codes base) (map codes (slices old.size bytes old.kept)) (codes cut) later meets (rw met-is at other)
                (rw (among-any (take old.size now) (slices old.size bytes old.kept), met-is) at e));
            few = omega arith;
            size = size;
          }

-- the cut shares no header with the base
pub cut-apart : (old new : Piece) (base rest cut : List ℕ) → old.cubes ≡ base ++ rest → new.cubes ≡ base ++ rest → new.size ≡ old.size
    → new.kept ≡ old.kept
    → length base ≡ old.size → false ≡ shares (codes base) (codes cut) → Taken old (codes cut ∷ []) new (Some tt)
unfolding onward
cut-apart old new base rest cut was is size k l e =
    let bases = same-base old new size base rest rest was is l in
    let kept : kept_in new ≡ kept_in old = rw (size, k, is, was) in
    record { goes = λ later. rw (bases.0, bases.1, kept) (tidy-apart (codes base) (kept_in old) (codes cut) later e); few = omega arith; size = size }

-- a row of cuts
abbrev pub TakesOn : Piece → List (List ℕ) → Piece → List (List ℕ) → Type 0
TakesOn old cs now ds =
    (later : List Cube) → tidy_from (base_in old) (kept_in old) (map codes cs ++ later) ≡ tidy_from (base_in now) (kept_in now) (map codes ds ++ later)

module _ (old : Piece) (cs : List (List ℕ)) (now : Piece) (rest : List (List ℕ)) (goes : TakesOn old cs now rest) where
  module _ (d : List ℕ) (ds : List (List ℕ)) (e : rest ≡ d ∷ ds) (new : Piece) (m : Option Unit) (taken : Taken now (codes d ∷ []) new m) where
    turn : (later : List Cube) → tidy_from (base_in old) (kept_in old) (map codes cs ++ later) ≡ onward new m (map codes ds ++ later)
    turn later = rw e at (goes later) ∙ taken.goes (map codes ds ++ later)

    pub row-kept : m ≡ Some tt → TakesOn old cs new ds
    unfolding onward
    row-kept k later = rw k at (turn later)

    pub row-omitted : m ≡ None → new.kept ≤ old.kept + length cs → new.size ≡ old.size → Taken old (map codes cs) new None
    unfolding onward
    row-omitted k n s = record { goes = λ later. rw k at (turn later); few = omega (arith, length-map cs codes); size = s }

  pub row-taken : rest ≡ [] → now.kept ≤ old.kept + length cs → now.size ≡ old.size → Taken old (map codes cs) now (Some tt)
  unfolding onward
  row-taken e n s = record { goes = λ later. rw e at (goes later); few = omega (arith, length-map cs codes); size = s }

-- no more cuts are kept than there are in the row
pub row-few : {old new : Piece} {m : Option Unit} (q : ℕ) (bs : List ℕ) (n : ℕ) → Taken old (map codes (slices q bs n)) new m
    → new.kept ≤ old.kept + n
row-few q bs n t = omega (arith, t.few, length-map (slices q bs n) codes, slices-length q bs n)

abbrev pub AllLong : ℕ → List (List ℕ) → Type 0
AllLong q bs = All (λ b. length b ≡ q) bs

pub slices-long : (q : ℕ) (bs : List ℕ) (n : ℕ) → n * q ≤ length bs → AllLong q (slices q bs n)
slices-long q bs zero h = tt
slices-long q bs (suc n) h =
    let l : n * q ≤ length (drop q bs) = simp length-drop (omega arith) in
    (length-take-le q bs (omega arith), slices-long q (drop q bs) n l)
