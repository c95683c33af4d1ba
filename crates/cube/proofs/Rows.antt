-- The slices of a row, from its other end, and as cubes.
use Rattle.std.proofs.Common.{ℕ, zero, suc, ◌≡◌, ◌+◌, ◌-◌, ◌*◌, ◌≤◌, ◌<◌, List, [], ◌∷◌, ◌++◌, length, take, drop, map, refl, ap, sym, ◌∙◌, zero-mul, arith}
use Rattle.std.proofs.lemmas.List.{drop-drop}
use Rattle.format.specs.Bytes.{codes}
use Rattle.cube.specs.Whole.{cube_of, whole_at, wholes_at}
use Rattle.cube.specs.Row.{slices}

pub slices-end : (q : ℕ) (bs : List ℕ) (n : ℕ) → slices q bs (suc n) ≡ slices q bs n ++ take q (drop (n * q) bs) ∷ []
slices-end q bs zero = rw (zero-mul q) refl
slices-end q bs (suc n) =
    let here : drop (n * q) (drop q bs) ≡ drop (suc n * q) bs = drop-drop (n * q) q bs ∙ ap (λ k. drop k bs) (omega arith)
    in ap (λ xs. take q bs ∷ xs) (slices-end q (drop q bs) n) ∙ ap (λ b. take q bs ∷ (slices q (drop q bs) n ++ take q b ∷ [])) here

-- the last slice of a row, read from its other end
pub slices-back : (q : ℕ) (bs : List ℕ) (m n : ℕ) (back x : List ℕ) → (1 ≤ m) × (n ≡ m - 1) → back ≡ drop (n * q) bs → x ≡ take q back
    → slices q bs m ≡ slices q bs n ++ x ∷ []
slices-back q bs m n back x e b l =
    let some : 1 ≤ m = e.0
    in let less : n ≡ m - 1 = e.1
    in let m-is : m ≡ suc n = omega arith
    in ap (slices q bs) m-is ∙ slices-end q bs n ∙ ap (λ y. slices q bs n ++ y ∷ []) (sym (l ∙ ap (take q) b))

pub slices-length : (q : ℕ) (bs : List ℕ) (n : ℕ) → length (slices q bs n) ≡ n
slices-length q bs zero = refl
slices-length q bs (suc n) = ap suc (slices-length q (drop q bs) n)

-- there are fewer after one is taken
pub slices-fewer : (q : ℕ) (bs : List ℕ) (m n : ℕ) → (1 ≤ m) × (n ≡ m - 1) → length (slices q bs n) < length (slices q bs m)
slices-fewer q bs m n e =
    let some : 1 ≤ m = e.0
    in let less : n ≡ m - 1 = e.1
    in let fewer : n < m = omega arith
    in rw (slices-length q bs m) (rw (slices-length q bs n) fewer)

pub slices-cubes : (q : ℕ) (s : List ℕ) (at n : ℕ) → map codes (slices q (drop at s) n) ≡ wholes_at q s at n
unfolding wholes_at whole_at cube_of
slices-cubes q s at zero = refl
slices-cubes q s at (suc n) =
    ap (λ b. codes (take q (drop at s)) ∷ map codes (slices q b n)) (drop-drop q at s)
    ∙ ap (λ cs. codes (take q (drop at s)) ∷ cs) (slices-cubes q s (at + q) n)
