-- A rule of a table, or of every byte, proved at all entries by one test that antt computes.
--   every f i xs       == the test f passes at each entry of xs and its place, counted from i
--   at f xs t k h      the test f, which passes at each entry of xs and its place, passes at the place k
--   below n f t k h    the test f, which passes at each number below n, passes at k
--   below2 m n f t j k h l   the test f, which passes at each two numbers below m and n, passes at j and k
--   agree a b          == a test that two truths are one
--   agree-eq           where it passes they are
use mathlib.Core.Path.{◌≡◌, refl, ◌∙◌, subst, sym}
use mathlib.Core.List.{List, [], ◌∷◌}
use mathlib.Core.Bool.{Bool, true, false, ◌&&◌}
use Prim.Native.Nat.{ℕ, zero, suc, ◌+◌, ◌<◌}
use native.Mathlib.Nat.{add-zero, zero-add, add-suc, suc-add, le_of_suc-le-suc, not-suc-le-zero}
use lib.Dec.{T}
use lib.ListN.{length, get_or, replicate, length-replicate}

and-fst : (a b : Bool) → T (a && b) → T a
and-fst true b t = tt
and-fst false b t = t

and-snd : (a b : Bool) → T (a && b) → T b
and-snd true b t = t
and-snd false b t = absurd t

abbrev pub every : (ℕ → ℕ → Bool) → ℕ → List ℕ → Bool
every f i [] = true
every f i (x ∷ xs) = f i x && every f (suc i) xs

from : (f : ℕ → ℕ → Bool) (xs : List ℕ) (i : ℕ) → T (every f i xs) → (k : ℕ) → k < length xs → T (f (i + k) (get_or xs k 0))
from f [] i t k h = absurd (not-suc-le-zero h)
from f (x ∷ xs) i t zero h = subst (λ (m : ℕ). T (f m x)) (sym (add-zero i)) (and-fst (f i x) (every f (suc i) xs) t)
from f (x ∷ xs) i t (suc k) h =
    subst (λ (m : ℕ). T (f m (get_or xs k 0))) (suc-add i k ∙ sym (add-suc i k))
    (from f xs (suc i) (and-snd (f i x) (every f (suc i) xs) t) k (le_of_suc-le-suc h))

pub at : (f : ℕ → ℕ → Bool) (xs : List ℕ) → T (every f 0 xs) → (k : ℕ) → k < length xs → T (f k (get_or xs k 0))
at f xs t k h = subst (λ (m : ℕ). T (f m (get_or xs k 0))) (zero-add k) (from f xs 0 t k h)

pub below : (n : ℕ) (f : ℕ → Bool) → T (every (λ k x. f k) 0 (replicate n 0)) → (k : ℕ) → k < n → T (f k)
below n f t k h = at (λ k x. f k) (replicate n 0) t k (rw length-replicate h)

pub below2 : (m n : ℕ) (f : ℕ → ℕ → Bool) → T (every (λ j x. every (λ k y. f j k) 0 (replicate n 0)) 0 (replicate m 0))
    → (j k : ℕ) → j < m → k < n → T (f j k)
below2 m n f t j k h l = below n (f j) (below m (λ j. every (λ k y. f j k) 0 (replicate n 0)) t j h) k l

abbrev pub agree : Bool → Bool → Bool
agree true b = b
agree false true = false
agree false false = true

pub agree-eq : (a b : Bool) → T (agree a b) → a ≡ b
agree-eq true true t = refl
agree-eq true false t = absurd t
agree-eq false true t = absurd t
agree-eq false false t = refl
