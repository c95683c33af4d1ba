-- The cube that fixes each bit of a header, as bytes.
--   within-holds    that cube lies in another exactly when the other holds the header
--   map-append      what is made of each of two lists in a row
--   four b          == the last four bits of a byte, spelled
--   same-T          a test of `same` that passes tells that cubes are equal
--   Spelt h i c     == the loop's invariant: i bytes of h are spelled in c, and every other bit is zero
--   spelt-start, spelt-turn, spelt-end    it holds at the start and after one byte more, and at the end all is spelled
use mathlib.Core.Path.{◌≡◌, refl, sym, ap, ap₂, ◌∙◌}
use mathlib.Core.List.{List, [], ◌∷◌, ◌++◌, map, append_assoc, append-nil}
use mathlib.Core.Bool.{Bool, true, false, ◌&&◌}
use Prim.Native.Nat.{ℕ, zero, suc, ◌+◌, ◌-◌, ◌*◌, ◌/◌, ◌%◌, ◌≤◌, ◌<◌, min}
use native.Mathlib.Numerals.{add-one}
use native.Mathlib.Omega.{arith}
use lib.Dec.{T, leb}
use lib.ListN.{length, get_or, take, drop, set, replicate, length-append, length-map, take-append-drop}
use lib.Seq.{length-take-le, take-suc, take_all, take_at, take-append-add, set_at}
use borrow.Author.Tests.{leb-true, leb-false}
use Rattle.model.specs.Cube.{Header, Code, none, v0, v1, free, Cube, admits, holds, meet_code, same_code, same, within}
use Rattle.model.specs.Fields.{bit_code}
use Rattle.model.proofs.Cubes.{same-is}
use Rattle.format.specs.Bytes.{bits, codes}
use Rattle.format.proofs.Heading.{length-bits}
use Rattle.cube.specs.Header.{spelled_cube}
use Rattle.cube.proofs.Every.{below}
use Rattle.cube.proofs.Codes.{codes-append}
use Rattle.cube.proofs.Headers.{bits-append}

bit-within : (b : Bool) (x : Code) → same_code (meet_code (bit_code b) x) (bit_code b) ≡ admits x b
bit-within true none = refl
bit-within true v0 = refl
bit-within true v1 = refl
bit-within true free = refl
bit-within false none = refl
bit-within false v0 = refl
bit-within false v1 = refl
bit-within false free = refl

pub within-holds : (h : Header) (c : Cube) → within (map bit_code h) c ≡ holds c h
within-holds [] [] = refl
within-holds [] (x ∷ c) = refl
within-holds (true ∷ h) [] = refl
within-holds (false ∷ h) [] = refl
within-holds (true ∷ h) (x ∷ c) = ap₂ (λ (s t : Bool). s && t) (bit-within true x) (within-holds h c)
within-holds (false ∷ h) (x ∷ c) = ap₂ (λ (s t : Bool). s && t) (bit-within false x) (within-holds h c)

-- bytes
pub map-append : {A B : Type 0} (f : A → B) (a b : List A) → map f (a ++ b) ≡ map f a ++ map f b
map-append f [] b = refl
map-append {B = B} f (x ∷ a) b = ap (λ (r : List B). f x ∷ r) (map-append f a b)

abbrev pub four : ℕ → Cube
four b = map bit_code (drop 4 (bits (b ∷ [])))

true-T : (t : Bool) → T t → t ≡ true
true-T true e = refl
true-T false e = absurd e

pub same-T : (a b : Cube) → T (same a b) → a ≡ b
same-T a b t = same-is a b (true-T (same a b) t)

two-fours : (b : ℕ) → b < 256 → four (b / 16) ++ four (b % 16) ≡ map bit_code (bits (b ∷ []))
two-fours b h =
    same-T (four (b / 16) ++ four (b % 16)) (map bit_code (bits (b ∷ [])))
    (below 256 (λ k. same (four (k / 16) ++ four (k % 16)) (map bit_code (bits (k ∷ [])))) tt b h)

codes-zero : (n : ℕ) → codes (replicate n 0x55) ≡ replicate (4 * n) v0
codes-zero zero = refl
codes-zero (suc n) =
    let e : 4 * suc n ≡ suc (suc (suc (suc (4 * n)))) = omega arith in
    rw e (ap (λ (c : Cube). v0 ∷ v0 ∷ v0 ∷ v0 ∷ c) (codes-zero n))

take-copies : (n m : ℕ) → n ≤ m → take n (replicate m v0) ≡ replicate n v0
take-copies zero m h = refl
take-copies (suc n) zero h = absurd (omega arith)
take-copies (suc n) (suc m) h = ap (λ (c : Cube). v0 ∷ c) (take-copies n m (omega arith))

-- the loop
abbrev pub Spelt : List ℕ → ℕ → List ℕ → Type 0
Spelt h i c = (done : List ℕ) × (length done ≡ 2 * i) × (c ≡ done ++ replicate (80 - 2 * i) 0x55) × (codes done ≡ map bit_code (bits (take i h)))

pub spelt-start : (h : List ℕ) → Spelt h 0 (replicate 80 0x55)
spelt-start h = ([], refl, refl, refl)

two-set : (done : List ℕ) (i m x y : ℕ) → length done ≡ 2 * i
    → set (set (done ++ replicate (suc (suc m)) 0x55) (2 * i) x) (2 * i + 1) y ≡ (done ++ (x ∷ y ∷ [])) ++ replicate m 0x55
two-set done i m x y l =
    let r = replicate {A = ℕ} m 0x55 in
    let n = length-append done (x ∷ []) in
    ap (λ (c : List ℕ). set c (2 * i + 1) y) (set_at done 0x55 (0x55 ∷ r) x (2 * i) l ∙ sym (append_assoc done (x ∷ []) (0x55 ∷ r)))
    ∙ set_at (done ++ (x ∷ [])) 0x55 r y (2 * i + 1) (omega arith)
    ∙ append_assoc done (x ∷ []) (y ∷ r) ∙ sym (append_assoc done (x ∷ y ∷ []) r)

pub spelt-turn : (h c : List ℕ) (i x y : ℕ) → i < 40 → i < length h → get_or h i 0 < 256
    → codes (x ∷ []) ≡ four (get_or h i 0 / 16) → codes (y ∷ []) ≡ four (get_or h i 0 % 16)
    → Spelt h i c → Spelt h (i + 1) (set (set c (2 * i) x) (2 * i + 1) y)
spelt-turn h c i x y k l byte ex ey s =
    let b = get_or h i 0 in
    let m = 80 - 2 * (i + 1) in
    let e : 80 - 2 * i ≡ suc (suc m) = omega arith in
    let n = length-append s.0 (x ∷ y ∷ []) in
    let d = s.1 in
    let here : codes (x ∷ y ∷ []) ≡ map bit_code (bits (b ∷ [])) = ap₂ (λ (p q : Cube). p ++ q) ex ey ∙ two-fours b byte in
    let upto : map bit_code (bits (take (i + 1) h)) ≡ map bit_code (bits (take i h)) ++ map bit_code (bits (b ∷ [])) =
    rw (add-one, take-suc h i 0, bits-append) (map-append bit_code (bits (take i h)) (bits (b ∷ []))) in (
      s.0 ++ (x ∷ y ∷ []),
      omega arith,
      ap (λ (z : List ℕ). set (set z (2 * i) x) (2 * i + 1) y) (s.2 ∙ ap (λ (k : ℕ). s.0 ++ replicate k 0x55) e) ∙ two-set s.0 i m x y d,
      codes-append s.0 (x ∷ y ∷ []) ∙ ap₂ (λ (p q : Cube). p ++ q) s.3 here ∙ sym upto,
    )

-- the end: a header of at most n bytes is spelled whole, of a longer one its first n bytes
abbrev spelt : List ℕ → Cube
spelt h = map bit_code (bits h)

length-spelt : (h : List ℕ) → length (spelt h) ≡ 8 * length h
length-spelt h = length-map (bits h) bit_code ∙ length-bits h

spelt-whole : (n : ℕ) (h : List ℕ) → length h ≤ n → take (8 * n) (spelt h ++ replicate (8 * n) v0) ≡ spelt h ++ replicate (8 * n - 8 * length h) v0
spelt-whole n h l =
    let k = length-spelt h in
    let e : 8 * n ≡ length (spelt h) + (8 * n - 8 * length h) = omega arith in
    ap (λ (m : ℕ). take m (spelt h ++ replicate (8 * n) v0)) e ∙ take-append-add (spelt h) (replicate (8 * n) v0) (8 * n - 8 * length h)
    ∙ ap (λ (c : Cube). spelt h ++ c) (take-copies (8 * n - 8 * length h) (8 * n) (omega arith))

spelt-part : (n : ℕ) (h : List ℕ) → n ≤ length h → take (8 * n) (spelt h ++ replicate (8 * n) v0) ≡ spelt (take n h)
spelt-part n h l =
    let k = length-spelt (take n h) in
    let m = length-take-le n h l in
    let both : spelt h ≡ spelt (take n h) ++ spelt (drop n h) =
    ap spelt (sym (take-append-drop n h)) ∙ ap (map bit_code) (bits-append (take n h) (drop n h)) ∙ map-append bit_code (bits (take n h)) (bits (drop n h)) in
    rw (both, append_assoc) (take_at (spelt (take n h)) (spelt (drop n h) ++ replicate (8 * n) v0) (8 * n) (omega arith))

-- i header bytes were spelled, n at most
spelt-all : (n i : ℕ) (h : List ℕ) → i ≡ min (length h) n
    → spelt (take i h) ++ replicate (8 * n - 8 * i) v0 ≡ take (8 * n) (spelt h ++ replicate (8 * n) v0)
spelt-all n i h e = go (leb (length h) n) refl
  where
    go : (t : Bool) → leb (length h) n ≡ t → spelt (take i h) ++ replicate (8 * n - 8 * i) v0 ≡ take (8 * n) (spelt h ++ replicate (8 * n) v0)
    go true t =
        let l = leb-true (length h) n t in
        let k : i ≡ length h = omega arith in
        rw (k, take_all (length h) h (omega arith)) (sym (spelt-whole n h l))
    go false t =
        let l = leb-false (length h) n t in
        let k : i ≡ n = omega arith in
        let z : 8 * n - 8 * n ≡ 0 = omega arith in
        rw (k, z) (append-nil (spelt (take n h)) ∙ sym (spelt-part n h (omega arith)))

pub spelt-end : (h c : List ℕ) (i : ℕ) → i ≡ min (length h) 40 → Spelt h i c → codes c ≡ spelled_cube h
unfolding spelled_cube
spelt-end h c i e s =
    let m : 4 * (80 - 2 * i) ≡ 8 * 40 - 8 * i = omega arith in
    ap codes s.2 ∙ codes-append s.0 (replicate (80 - 2 * i) 0x55)
    ∙ ap₂ (λ (p q : Cube). p ++ q) s.3 (codes-zero (80 - 2 * i) ∙ ap (λ (k : ℕ). replicate k v0) m) ∙ spelt-all 40 i h e
