-- Membership by bytes: a header is in an accepted cube exactly when the cube that spells it lies in that cube.
--   codes-take      the codes of the first n bytes
--   spelled-in      of the bytes of `spelled`, as many as the cube has
use mathlib.Core.Path.{◌≡◌, refl, sym, ap, ap₂, ◌∙◌}
use mathlib.Core.List.{List, [], ◌∷◌, ◌++◌, map}
use mathlib.Core.Bool.{false}
use Prim.Native.Nat.{ℕ, zero, suc, ◌+◌, ◌*◌, ◌/◌, ◌%◌, ◌≤◌}
use native.Mathlib.Omega.{arith}
use lib.ListN.{length, take, drop, replicate, length-append, length-drop, length-replicate}
use lib.Seq.{length-take-le, take-append-le, take-take, take-add}
use Rattle.model.specs.Cube.{Header, v0, Cube, holds, within}
use Rattle.model.specs.Fields.{bit_code}
use Rattle.model.specs.Padding.{pad}
use Rattle.model.proofs.Padding.{holds-pad}
use Rattle.format.specs.Limits.{widest}
use Rattle.format.specs.Bytes.{header_len, cube_len, bits, read_header, code_of, codes, read_cube, cube_fault, unused}
use Rattle.format.proofs.Coding.{length-codes, read_length, read-padded}
use Rattle.format.proofs.Heading.{length-bits}
use Rattle.cube.specs.Pair.{lies_in}
use Rattle.cube.specs.Header.{spelled_cube}
use Rattle.cube.proofs.Pairs.{lies_within}
use Rattle.cube.proofs.Spelling.{map-append, within-holds}

pub codes-take : (n : ℕ) (bs : List ℕ) → codes (take n bs) ≡ take (4 * n) (codes bs)
codes-take zero bs = refl
codes-take (suc n) [] = let e : 4 * suc n ≡ suc (4 * n + 3) = omega arith in rw e
codes-take (suc n) (b ∷ bs) =
    let e : 4 * suc n ≡ suc (suc (suc (suc (4 * n)))) = omega arith in
    rw e (ap (λ (c : Cube). code_of (b / 64 % 4) ∷ code_of (b / 16 % 4) ∷ code_of (b / 4 % 4) ∷ code_of (b % 4) ∷ c) (codes-take n bs))

map-take : {A B : Type 0} (f : A → B) (n : ℕ) (l : List A) → take n (map f l) ≡ map f (take n l)
map-take f zero l = refl
map-take f (suc n) [] = refl
map-take {B = B} f (suc n) (x ∷ l) = ap (λ (r : List B). f x ∷ r) (map-take f n l)

map-copies : (n : ℕ) → map bit_code (replicate n false) ≡ replicate n v0
map-copies zero = refl
map-copies (suc n) = ap (λ (c : Cube). v0 ∷ c) (map-copies n)

-- the bits that are spelled, zero behind those of h
filled : ℕ → List ℕ → Header
filled n h = bits h ++ replicate n false

spelled-bits : (n m : ℕ) (h : List ℕ) → take n (map bit_code (bits h) ++ replicate m v0) ≡ map bit_code (take n (filled m h))
unfolding filled
spelled-bits n m h =
    ap (take n) (ap (λ (c : Cube). map bit_code (bits h) ++ c) (sym (map-copies m)) ∙ sym (map-append bit_code (bits h) (replicate m false)))
    ∙ map-take bit_code n (bits h ++ replicate m false)

-- of n bits the first w are the header's, and u stand behind them
bits-split : (w u m : ℕ) (h : List ℕ) → length h ≡ header_len w
    → take (w + u) (filled m h) ≡ read_header w h ++ take u (drop w (filled m h))
unfolding filled read_header
bits-split w u m h l =
    let k = length-bits h in
    take-add w u (bits h ++ replicate m false)
    ∙ ap (λ (g : Header). g ++ take u (drop w (bits h ++ replicate m false))) (take-append-le w (bits h) (replicate m false) (omega arith))

rest-length : (w u m : ℕ) (h : List ℕ) → w + u ≤ m → length (take u (drop w (filled m h))) ≡ u
unfolding filled
rest-length w u m h l =
    let k = length-append (bits h) (replicate m false) in
    let n = length-replicate m false in
    let d = length-drop w (bits h ++ replicate m false) in
    length-take-le u (drop w (bits h ++ replicate m false)) (omega arith)

header-sized : (w : ℕ) (h : List ℕ) → length h ≡ header_len w → length (read_header w h) ≡ w
unfolding read_header
header-sized w h l = let k = length-bits h in length-take-le w (bits h) (omega arith)

spelled-length : (s h : List ℕ) → codes s ≡ spelled_cube h → length s ≡ 80
unfolding spelled_cube
spelled-length s h e =
    let k = length-codes s in
    let a = length-append (map bit_code (bits h)) (replicate widest v0) in
    let n = length-replicate widest v0 in
    let m = ap length e ∙ length-take-le widest (map bit_code (bits h) ++ replicate widest v0) (omega arith) in
    omega arith

spelled-front : (n m : ℕ) (s h : List ℕ) → n ≤ m → codes s ≡ take m (map bit_code (bits h) ++ replicate m v0) → take n (codes s) ≡ map bit_code (take n (filled m h))
spelled-front n m s h l e = ap (take n) e ∙ take-take n m (map bit_code (bits h) ++ replicate m v0) l ∙ spelled-bits n m h

pub spelled-in : (w : ℕ) (h s c : List ℕ) → w ≤ widest → length h ≡ header_len w → codes s ≡ spelled_cube h → length c ≡ cube_len w → cube_fault w c ≡ 0
    → lies_in (take (cube_len w) s) c ≡ holds (read_cube w c) (read_header w h)
unfolding spelled_cube
spelled-in w h s c l lh e lc f =
    let n = cube_len w in
    let u = unused w in
    let k = spelled-length s h e in
    let m = length-take-le n s (omega arith) in
    let four : 4 * n ≡ w + u = omega arith in
    let front : codes (take n s) ≡ map bit_code (take (w + u) (filled widest h)) =
    codes-take n s ∙ ap (λ (j : ℕ). take j (codes s)) four ∙ spelled-front (w + u) widest s h (omega arith) e in
    sym (lies_within (take n s) c (m ∙ sym lc)) ∙ ap₂ within front (read-padded w c lc f)
    ∙ within-holds (take (w + u) (filled widest h)) (pad u (read_cube w c))
    ∙ ap (holds (pad u (read_cube w c))) (bits-split w u widest h lh)
    ∙ holds-pad u (read_cube w c) (read_header w h) (take u (drop w (filled widest h))) (header-sized w h lh ∙ sym (read_length w c lc)) (rest-length w u widest h (omega arith))
