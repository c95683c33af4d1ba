-- Cubes of whole bytes, and rows of them.
--   whole_part, part_length  the part of bytes that such a cube is
--   whole-padded, wholes-padded    the cubes of an accepted record are the model's, with the unused places behind each
--   row_room, row-length     the bytes of a row of n cubes are those of the first and of the others; it has n cubes
--   wholes-turn, wholes-none, wholes-more    the first of a row, the row with none, and a row with one cube more at its end
--   wholes-same              the same bytes hold the same row
--   wholes-front, wholes-back    buffers that are the same up to an offset, or from one on, hold the same rows there
--   among-found, among-passed    looking for a cube in a row
use Prim.Native.Nat.{ℕ, zero, suc, ◌+◌, ◌-◌, ◌*◌, ◌≤◌, ◌<◌}
use native.Mathlib.Nat.{suc-add}
use native.Mathlib.Omega.{arith}
use mathlib.Core.Path.{◌≡◌, refl, sym, ap, ap₂, ◌∙◌}
use mathlib.Core.List.{List, [], ◌∷◌, ◌++◌, map}
use mathlib.Core.Bool.{true, false}
use lib.ListN.{length, take, drop, length-drop}
use lib.Seq.{length-take-le, take-take, drop-drop}
use Rattle.model.specs.Cube.{Cube, same}
use Rattle.model.specs.Padding.{pad}
use Rattle.model.specs.Tidy.{among}
use Rattle.format.specs.Bytes.{cube_len, codes, cube_fault, unused}
use Rattle.format.specs.Records.{cube_at, cubes_at}
use Rattle.format.proofs.Coding.{read-padded}
use Rattle.cube.specs.Whole.{cube_of, whole_at, wholes_at}
use Rattle.cube.proofs.Parts.{drop-take}

pub whole_part : (q : ℕ) (s : List ℕ) (at : ℕ) → codes (take (at + q - at) (drop at s)) ≡ whole_at q s at
unfolding whole_at cube_of
whole_part q s at = let e : at + q - at ≡ q = omega arith in rw e

pub part_length : (q : ℕ) (s : List ℕ) (at : ℕ) → at + q ≤ length s → q ≡ length (take (at + q - at) (drop at s))
part_length q s at h = let e : at + q - at ≡ q = omega arith in rw e (sym (length-take-le q (drop at s) (simp length-drop (omega arith))))

pub whole-padded : (w : ℕ) (s : List ℕ) (at : ℕ) → at + cube_len w ≤ length s → cube_fault w (take (cube_len w) (drop at s)) ≡ 0
    → whole_at (cube_len w) s at ≡ pad (unused w) (cube_at w s at)
unfolding whole_at cube_of cube_at
whole-padded w s at h e = read-padded w (take (cube_len w) (drop at s)) (length-take-le (cube_len w) (drop at s) (simp length-drop (omega arith))) e

pub wholes-padded : (w : ℕ) (s : List ℕ) (at n : ℕ) → at + n * cube_len w ≤ length s
    → ((i : ℕ) → i < n → cube_fault w (take (cube_len w) (drop (at + i * cube_len w) s)) ≡ 0)
    → wholes_at (cube_len w) s at n ≡ map (pad (unused w)) (cubes_at w s at n)
unfolding wholes_at cubes_at
wholes-padded w s at zero h e = refl
wholes-padded w s at (suc n) h e =
    let z : at + 0 * cube_len w ≡ at = omega arith in
    rw (whole-padded w s at (omega arith) (rw z at (e 0 (omega arith))))
    (ap (λ (l : List Cube). pad (unused w) (cube_at w s at) ∷ l)
    (wholes-padded w s (at + cube_len w) n (omega arith)
    (λ i l. let y : at + suc i * cube_len w ≡ at + cube_len w + i * cube_len w = omega arith in rw y at (e (suc i) (omega arith)))))

-- rows
pub row_room : (n q : ℕ) → 0 < n → n * q ≡ q + (n - 1) * q
row_room zero q h = absurd (omega arith)
row_room (suc n) q h = let e : suc n - 1 ≡ n = omega arith in rw e (omega arith)

pub row-length : (q : ℕ) (s : List ℕ) (at n : ℕ) → length (wholes_at q s at n) ≡ n
unfolding wholes_at
row-length q s at zero = refl
row-length q s at (suc n) = ap suc (row-length q s (at + q) n)

pub wholes-turn : (q : ℕ) (s : List ℕ) (at n : ℕ) → 0 < n → wholes_at q s at n ≡ whole_at q s at ∷ wholes_at q s (at + q) (n - 1)
unfolding wholes_at
wholes-turn q s at zero h = absurd (omega arith)
wholes-turn q s at (suc n) h = let e : suc n - 1 ≡ n = omega arith in rw e

pub wholes-none : (q : ℕ) (s : List ℕ) (at n : ℕ) → n ≤ 0 → wholes_at q s at n ≡ []
unfolding wholes_at
wholes-none q s at zero h = refl
wholes-none q s at (suc n) h = absurd (omega arith)

pub wholes-more : (q : ℕ) (s : List ℕ) (at n : ℕ) → wholes_at q s at (n + 1) ≡ wholes_at q s at n ++ (whole_at q s (at + n * q) ∷ [])
unfolding wholes_at
wholes-more q s at zero = let e : at + 0 * q ≡ at = omega arith in rw e
wholes-more q s at (suc n) =
    let e : at + suc n * q ≡ at + q + n * q = omega arith in
    rw (suc-add, e) (ap (λ (l : List Cube). whole_at q s at ∷ l) (wholes-more q s (at + q) n))

pub wholes-same : (q n : ℕ) (s t : List ℕ) (at bt : ℕ) → take (n * q) (drop at s) ≡ take (n * q) (drop bt t)
    → wholes_at q s at n ≡ wholes_at q t bt n
unfolding wholes_at whole_at cube_of
wholes-same q zero s t at bt e = refl
wholes-same q (suc n) s t at bt e =
    let m : suc n * q ≡ q + n * q = omega arith in
    let f = rw m at e in
    let first = sym (take-take q (q + n * q) (drop at s) (omega arith)) ∙ ap (take q) f ∙ take-take q (q + n * q) (drop bt t) (omega arith) in
    let later = sym (drop-take q (n * q) (drop at s)) ∙ ap (drop q) f ∙ drop-take q (n * q) (drop bt t) in
    ap₂ (λ (c : Cube) (cs : List Cube). c ∷ cs) (ap codes first)
    (wholes-same q n s t (at + q) (bt + q) (rw (drop-drop q at s, drop-drop q bt t) at later))

take_part : (q at m : ℕ) (s : List ℕ) → at + q ≤ m → take q (drop at (take m s)) ≡ take q (drop at s)
take_part q zero m s h = take-take q m s (omega arith)
take_part q (suc at) zero s h = absurd (omega arith)
take_part q (suc at) (suc m) [] h = refl
take_part q (suc at) (suc m) (x ∷ s) h = take_part q at m s (omega arith)

pub wholes-front : (q m : ℕ) (s t : List ℕ) (at n : ℕ) → at + n * q ≤ m → take m s ≡ take m t → wholes_at q s at n ≡ wholes_at q t at n
wholes-front q m s t at n h e =
    wholes-same q n s t at at
    (sym (take_part (n * q) at m s h) ∙ ap (λ (l : List ℕ). take (n * q) (drop at l)) e ∙ take_part (n * q) at m t h)

pub wholes-back : (q : ℕ) (s t : List ℕ) (at n : ℕ) → drop at s ≡ drop at t → wholes_at q s at n ≡ wholes_at q t at n
wholes-back q s t at n e = wholes-same q n s t at at (ap (take (n * q)) e)

-- the cube x, looked for in a row from an offset on
module _ (x : Cube) (q : ℕ) (s : List ℕ) (at n : ℕ) (h : 0 < n) where
  pub among-found : true ≡ same x (whole_at q s at) → true ≡ among x (wholes_at q s at n)
  among-found e = rw (wholes-turn q s at n h, ← e)

  pub among-passed : false ≡ same x (whole_at q s at) → among x (wholes_at q s at n) ≡ among x (wholes_at q s (at + q) (n - 1))
  among-passed e = rw (wholes-turn q s at n h, ← e)
