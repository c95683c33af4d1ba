-- Prefix constraints and equality of fields. The bounds stand as hypotheses where a law needs them.
--   in-prefix        a header of w positions is in the prefix cube exactly when the m positions from s on are the first m bits of the value
--   prefix-length    the prefix cube has w positions
--   prefix-solid     the prefix cube has no `none`
--   in-equal         a header of w positions is in the equality exactly when the two fields of it are the same bits; the fields may overlap
--   equal-count      n positions make 2 * n cuts
--   good-equal       the base and the cuts of an equality have w positions and no `none`; it needs no bounds
--   equal-tidy       equality's cuts are tidy anyway, also with overlap: tidying changes nothing
use Prim.Native.Nat.{ℕ, zero, suc, ◌+◌, ◌-◌, ◌*◌, ◌≤◌, ◌<◌}
use native.Mathlib.Numerals.{add-one}
use native.Mathlib.Omega.{arith}
use mathlib.Core.Path.{◌≡◌, refl, sym, ap, ◌∙◌}
use mathlib.Core.Logic.{◌≢◌}
use mathlib.Core.List.{List, [], ◌∷◌, ◌++◌, map, append-nil, append_assoc}
use mathlib.Core.Bool.{Bool, true, false, not, ◌&&◌, ◌||◌, beq, and_assoc, and_comm, and-true, and-false}
use lib.ListN.{length, get_or, take, drop, set, replicate, length-append, length-take, length-drop, length-set, length-replicate, length-map, get_or-replicate}
use lib.Seq.{length-take-le, drop-cons, get_or-set_other, get_or-set_same}
use lib.Dec.{eqb, leb}
use borrow.Author.Tests.{eqb-true, eqb-false, leb-true, leb-false}
use Rattle.model.specs.Cube.{Header, Code, none, v0, v1, free, Cube, admits, holds, meet, coded, solid, same_code, same}
use Rattle.model.specs.Difference.{less, any_holds, in_difference}
use Rattle.model.specs.Tidy.{among, tidy_from, tidy}
use Rattle.model.specs.Fields.{bit_code, same_bits, prefix_cube, apart, unequal, fields_equal}
use Rattle.model.proofs.Bools.{and_both, and_left, and_right}
use Rattle.model.specs.Sized.{All, Sized, Good}
use Rattle.model.proofs.Tidying.{all_append}

-- a cube of two parts, and the parts: free positions and given bits
holds-append : (a b : Cube) (h : Header) → holds (a ++ b) h ≡ holds a (take (length a) h) && holds b (drop (length a) h)
holds-append [] b h = refl
holds-append (x ∷ a) b [] = refl
holds-append (x ∷ a) b (i ∷ h) =
    rw (holds-append a b h) (sym (and_assoc (admits x i) (holds a (take (length a) h)) (holds b (drop (length a) h))))

holds-free : (n : ℕ) (h : Header) → length h ≡ n → holds (replicate n free) h ≡ true
holds-free zero [] e = refl
holds-free zero (b ∷ h) e = cc
holds-free (suc n) [] e = cc
holds-free (suc n) (b ∷ h) e = holds-free n h (omega arith)

holds-bits : (v h : Header) → holds (map bit_code v) h ≡ same_bits h v
holds-bits [] [] = refl
holds-bits [] (b ∷ h) = refl
holds-bits (a ∷ v) [] = refl
holds-bits (true ∷ v) (true ∷ h) = holds-bits v h
holds-bits (true ∷ v) (false ∷ h) = refl
holds-bits (false ∷ v) (true ∷ h) = refl
holds-bits (false ∷ v) (false ∷ h) = holds-bits v h

pub in-prefix : (w s m : ℕ) (v h : Header) → length h ≡ w → s + m ≤ w → m ≤ length v
    → holds (prefix_cube w s m v) h ≡ same_bits (take m (drop s h)) (take m v)
unfolding prefix_cube
in-prefix w s m v h e f g =
    let rest = w - (s + m) in
    rw (
      holds-append (replicate s free) (map bit_code (take m v) ++ replicate rest free) h,
      length-replicate s free,
      holds-free s (take s h) (length-take-le s h (omega arith)),
      holds-append (map bit_code (take m v)) (replicate rest free) (drop s h),
      length-map (take m v) bit_code,
      length-take-le m v g,
      holds-free rest (drop m (drop s h)) (simp length-drop (omega arith)),
      holds-bits (take m v) (take m (drop s h)),
    ) (and-true (same_bits (take m (drop s h)) (take m v)))

pub prefix-length : (w s m : ℕ) (v : Header) → s + m ≤ w → m ≤ length v → length (prefix_cube w s m v) ≡ w
unfolding prefix_cube
prefix-length w s m v f g = simp (length-append, length-replicate, length-map, length-take) (omega arith)

solid-append : (a b : Cube) → solid a ≡ true → solid b ≡ true → solid (a ++ b) ≡ true
solid-append [] b p q = q
solid-append (x ∷ a) b p q =
    and_both (coded x) (solid (a ++ b)) (and_left (coded x) (solid a) p) (solid-append a b (and_right (coded x) (solid a) p) q)

solid-free : (n : ℕ) → solid (replicate n free) ≡ true
solid-free zero = refl
solid-free (suc n) = solid-free n

solid-bits : (v : Header) → solid (map bit_code v) ≡ true
solid-bits [] = refl
solid-bits (true ∷ v) = solid-bits v
solid-bits (false ∷ v) = solid-bits v

pub prefix-solid : (w s m : ℕ) (v : Header) → solid (prefix_cube w s m v) ≡ true
unfolding prefix_cube
prefix-solid w s m v =
    let bits = map bit_code (take m v) in
    let rest = replicate (w - (s + m)) free in
    solid-append (replicate s free) (bits ++ rest) (solid-free s) (solid-append bits rest (solid-bits (take m v)) (solid-free (w - (s + m))))

-- a code set at a position that was free
holds-set : (c : Cube) (p : ℕ) (x : Code) (h : Header) → p < length c → get_or c p none ≡ free
    → holds (set c p x) h ≡ holds c h && admits x (get_or h p false)
holds-set [] p x h l e = absurd (omega arith)
holds-set (y ∷ c) zero x [] l e = refl
holds-set (y ∷ c) zero x (b ∷ h) l e = rw e (and_comm (admits x b) (holds c h))
holds-set (y ∷ c) (suc p) x [] l e = refl
holds-set (y ∷ c) (suc p) x (b ∷ h) l e = rw (holds-set c p x h (omega arith) e) (sym (and_assoc (admits y b) (holds c h) (admits x (get_or h p false))))

holds-apart : (w p q : ℕ) (x y : Code) (h : Header) → length h ≡ w → p < w → q < w → p ≢ q
    → holds (apart w p q x y) h ≡ admits x (get_or h p false) && admits y (get_or h q false)
holds-apart w p q x y h e f g d = second ∙ rw (first, holds-free w h e)
  where
    first : holds (set (replicate w free) p x) h ≡ holds (replicate w free) h && admits x (get_or h p false)
    first = holds-set (replicate w free) p x h (rw (length-replicate w free) f) (get_or-replicate w p free none f)

    inside : q < length (set (replicate w free) p x)
    inside = rw (length-set (replicate w free) p x, length-replicate w free) g

    second : holds (apart w p q x y) h ≡ holds (set (replicate w free) p x) h && admits y (get_or h q false)
    second =
        holds-set (set (replicate w free) p x) q y h inside (get_or-set_other (replicate w free) p q x none (omega arith) ∙ get_or-replicate w q free none g)

-- the two cuts of a position take just the headers whose bits a and b there differ
differ : (a b s : Bool) → not (admits v0 a && admits v1 b || (admits v1 a && admits v0 b || s)) ≡ beq a b && not s
differ true true s = refl
differ true false s = refl
differ false true s = refl
differ false false s = refl

in-unequal : (w p q n : ℕ) (h : Header) → length h ≡ w → p + n ≤ w → q + n ≤ w → p ≢ q
    → not (any_holds (unequal w p q n) h) ≡ same_bits (take n (drop p h)) (take n (drop q h))
unfolding unequal
in-unequal w p q zero h e f g d = refl
in-unequal w p q (suc n) h e f g d =
    rw (
      drop-cons h p false (omega arith),
      drop-cons h q false (omega arith),
      holds-apart w p q v0 v1 h e (omega arith) (omega arith) d,
      holds-apart w p q v1 v0 h e (omega arith) (omega arith) d,
      differ (get_or h p false) (get_or h q false) (any_holds (unequal w (p + 1) (q + 1) n) h),
      in-unequal w (p + 1) (q + 1) n h e (omega arith) (omega arith) (omega arith),
      add-one p,
      add-one q,
    )

bits-self : (u : Header) → same_bits u u ≡ true
bits-self [] = refl
bits-self (true ∷ u) = bits-self u
bits-self (false ∷ u) = bits-self u

pub in-equal : (w p q n : ℕ) (h : Header) → length h ≡ w → p + n ≤ w → q + n ≤ w
    → in_difference (fields_equal w p q n) h ≡ same_bits (take n (drop p h)) (take n (drop q h))
unfolding fields_equal
in-equal w p q n h e f g = go (eqb p q) refl
  where
    go : (t : Bool) → eqb p q ≡ t → in_difference (fields_equal w p q n) h ≡ same_bits (take n (drop p h)) (take n (drop q h))
    go true i = rw (i, holds-free w h e, eqb-true p q i) (sym (bits-self (take n (drop q h))))
    go false i = rw (i, holds-free w h e) (in-unequal w p q n h e f g (eqb-false p q i))

pub equal-count : (w p q n : ℕ) → length (unequal w p q n) ≡ 2 * n
unfolding unequal
equal-count w p q zero = refl
equal-count w p q (suc n) = omega (arith, equal-count w (p + 1) (q + 1) n)

solid-set : (c : Cube) (p : ℕ) (x : Code) → solid c ≡ true → coded x ≡ true → solid (set c p x) ≡ true
solid-set [] p x e f = refl
solid-set (y ∷ c) zero x e f = and_both (coded x) (solid c) f (and_right (coded y) (solid c) e)
solid-set (y ∷ c) (suc p) x e f =
    and_both (coded y) (solid (set c p x)) (and_left (coded y) (solid c) e) (solid-set c p x (and_right (coded y) (solid c) e) f)

sized-free : (w : ℕ) → Sized w (replicate w free)
sized-free w = record { wide = length-replicate w free; filled = solid-free w }

sized-apart : (w p q : ℕ) (x y : Code) → coded x ≡ true → coded y ≡ true → Sized w (apart w p q x y)
sized-apart w p q x y e f = record {
  wide = simp (length-set, length-replicate);
  filled = solid-set (set (replicate w free) p x) q y (solid-set (replicate w free) p x (solid-free w) e) f;
}

sized-unequal : (w p q n : ℕ) → All (Sized w) (unequal w p q n)
unfolding unequal
sized-unequal w p q zero = tt
sized-unequal w p q (suc n) = (sized-apart w p q v0 v1 refl refl, (sized-apart w p q v1 v0 refl refl, sized-unequal w (p + 1) (q + 1) n))

pub good-equal : (w p q n : ℕ) → Good w (fields_equal w p q n)
unfolding fields_equal
good-equal w p q n = go (eqb p q) refl
  where
    go : (t : Bool) → eqb p q ≡ t → Good w (fields_equal w p q n)
    go true e = record { base = sized-free w; cuts = rw e tt }
    go false e = record { base = sized-free w; cuts = rw e (sized-unequal w p q n) }

-- Equality's cuts are tidy: each is unlike the base and all earlier cuts, since these are free at the later one of its positions.
all_map : {A : Type 0} (P Q : A → Type 0) → ((x : A) → P x → Q x) → (xs : List A) → All P xs → All Q xs
all_map P Q f [] a = tt
all_map P Q f (x ∷ xs) a = (f x a.0, all_map P Q f xs a.1)

meet-free : (w : ℕ) (c : Cube) → length c ≡ w → meet (replicate w free) c ≡ c
meet-free zero [] e = refl
meet-free zero (y ∷ c) e = cc
meet-free (suc w) [] e = cc
meet-free (suc w) (y ∷ c) e = ap (λ (d : Cube). y ∷ d) (meet-free w c (omega arith))

-- cubes that differ at a position are not the same
abbrev Unlike : Cube → Cube → Type 0
Unlike c k = same c k ≡ false

unlike : (c k : Cube) (i : ℕ) → same_code (get_or c i free) (get_or k i free) ≡ false → Unlike c k
unlike [] [] i e = e
unlike [] (y ∷ k) i e = refl
unlike (x ∷ c) [] i e = refl
unlike (x ∷ c) (y ∷ k) zero e = rw e
unlike (x ∷ c) (y ∷ k) (suc i) e = rw (unlike c k i e) (and-false (same_code x y))

among_none : (c : Cube) (ks : List Cube) → All (Unlike c) ks → among c ks ≡ false
among_none c [] a = refl
among_none c (k ∷ ks) a = rw (a.0, among_none c ks a.1)

tidy-take : (w : ℕ) (ks : List Cube) (c : Cube) (cs : List Cube) → Sized w c → All (Unlike c) (replicate w free ∷ ks)
    → tidy_from (replicate w free) ks (c ∷ cs) ≡ tidy_from (replicate w free) (ks ++ (c ∷ [])) cs
unfolding tidy_from
tidy-take w ks c cs s a = rw (meet-free w c s.wide, s.filled, a.0, among_none c ks a.1)

-- free from the later one of two positions on
abbrev Clear : ℕ → ℕ → Cube → Type 0
Clear p q c = (i : ℕ) → p ≤ i → q ≤ i → get_or c i free ≡ free

free-at : (w i : ℕ) → get_or (replicate w free) i free ≡ free
free-at zero i = refl
free-at (suc w) zero = refl
free-at (suc w) (suc i) = free-at w i

clear_apart : (w p q : ℕ) (x y : Code) → Clear (p + 1) (q + 1) (apart w p q x y)
clear_apart w p q x y i f g =
    get_or-set_other (set (replicate w free) p x) q i y free (omega arith) ∙ get_or-set_other (replicate w free) p i x free (omega arith)
    ∙ free-at w i

first_code : (w p q : ℕ) (x y : Code) → p < w → p ≢ q → get_or (apart w p q x y) p free ≡ x
first_code w p q x y f d =
    get_or-set_other (set (replicate w free) p x) q p y free d ∙ get_or-set_same (replicate w free) p x free (rw (length-replicate w free) f)

second-code : (w p q : ℕ) (x y : Code) → q < w → get_or (apart w p q x y) q free ≡ y
second-code w p q x y f = get_or-set_same (set (replicate w free) p x) q y free (rw (length-set (replicate w free) p x, length-replicate w free) f)

unlike-clear : (w p q : ℕ) (x y : Code) → p < w → q < w → p ≢ q → same_code x free ≡ false → same_code y free ≡ false → (k : Cube) → Clear p q k
    → Unlike (apart w p q x y) k
unlike-clear w p q x y f g d s t k c = go (leb p q) refl
  where
    go : (b : Bool) → leb p q ≡ b → Unlike (apart w p q x y) k
    go true e = let l = leb-true p q e in unlike (apart w p q x y) k q (rw (second-code w p q x y g, c q l (omega arith)) t)
    go false e = let l = leb-false p q e in unlike (apart w p q x y) k p (rw (first_code w p q x y f d, c p (omega arith) (omega arith)) s)

-- the two cuts of a position
abbrev pair : ℕ → ℕ → ℕ → List Cube
pair w p q = apart w p q v0 v1 ∷ apart w p q v1 v0 ∷ []

clear-pair : (w p q : ℕ) (ks : List Cube) → All (Clear p q) ks → All (Clear (p + 1) (q + 1)) (ks ++ pair w p q)
clear-pair w p q ks a =
    let later = Clear (p + 1) (q + 1) in
    let old = all_map (Clear p q) later (λ c k i f g. k i (omega arith) (omega arith)) ks a in
    all_append later ks (pair w p q) old (clear_apart w p q v0 v1, (clear_apart w p q v1 v0, tt))

tidy-pair : (w p q : ℕ) (ks cs : List Cube) → p < w → q < w → p ≢ q → All (Clear p q) ks
    → tidy_from (replicate w free) ks (pair w p q ++ cs) ≡ tidy_from (replicate w free) (ks ++ pair w p q) cs
tidy-pair w p q ks cs f g d a =
    tidy-take w ks (apart w p q v0 v1) (apart w p q v1 v0 ∷ cs) (sized-apart w p q v0 v1 refl refl) (others v0 v1 refl refl)
    ∙ tidy-take w (ks ++ (apart w p q v0 v1 ∷ [])) (apart w p q v1 v0) cs (sized-apart w p q v1 v0 refl refl) again
    ∙ rw (append_assoc ks (apart w p q v0 v1 ∷ []) (apart w p q v1 v0 ∷ []))
  where
    swapped : Unlike (apart w p q v1 v0) (apart w p q v0 v1)
    swapped = unlike (apart w p q v1 v0) (apart w p q v0 v1) p (rw (first_code w p q v1 v0 f d, first_code w p q v0 v1 f d))

    others : (x y : Code) → same_code x free ≡ false → same_code y free ≡ false → All (Unlike (apart w p q x y)) (replicate w free ∷ ks)
    others x y s t =
        all_map (Clear p q) (Unlike (apart w p q x y)) (unlike-clear w p q x y f g d s t) (replicate w free ∷ ks) ((λ i j l. free-at w i), a)

    again : All (Unlike (apart w p q v1 v0)) (replicate w free ∷ (ks ++ (apart w p q v0 v1 ∷ [])))
    again = all_append (Unlike (apart w p q v1 v0)) (replicate w free ∷ ks) (apart w p q v0 v1 ∷ []) (others v1 v0 refl refl) (swapped, tt)

tidy-unequal : (w p q n : ℕ) (ks : List Cube) → p + n ≤ w → q + n ≤ w → p ≢ q → All (Clear p q) ks
    → tidy_from (replicate w free) ks (unequal w p q n) ≡ less (replicate w free) (ks ++ unequal w p q n) ∷ []
unfolding tidy_from unequal
tidy-unequal w p q zero ks f g d a = rw (append-nil ks)
tidy-unequal w p q (suc n) ks f g d a =
    tidy-pair w p q ks (unequal w (p + 1) (q + 1) n) (omega arith) (omega arith) d a
    ∙ tidy-unequal w (p + 1) (q + 1) n (ks ++ pair w p q) (omega arith) (omega arith) (omega arith) (clear-pair w p q ks a)
    ∙ rw (append_assoc ks (pair w p q) (unequal w (p + 1) (q + 1) n))

pub equal-tidy : (w p q n : ℕ) → p + n ≤ w → q + n ≤ w → tidy (fields_equal w p q n) ≡ fields_equal w p q n ∷ []
unfolding tidy_from fields_equal
equal-tidy w p q n f g = go (eqb p q) refl
  where
    go : (t : Bool) → eqb p q ≡ t → tidy (fields_equal w p q n) ≡ fields_equal w p q n ∷ []
    go true e = rw e
    go false e = rw e (tidy-unequal w p q n [] f g (eqb-false p q e) tt)
