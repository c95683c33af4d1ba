-- The second bound on the pieces of a walk. Pieces that follow of the same cut have no header in common where only the positions that matter are
-- looked at, so they share out among them the ways in which the piece before can be filled in there: at most 2^s for each of the k cuts.
--   spread ms p            in how many ways the free positions of the piece p that have a mark can be filled in
--   total ms qs            the same of several pieces, added up
--   pieces-at-most-over    the walk visits no more pieces than 1 + k * 2^s
use Prim.Native.Nat.{ℕ, suc, ◌+◌, ◌*◌, ◌^◌, ◌≤◌}
use native.Mathlib.Nat.{suc-mul, mul-add, mul-le-mul_left, two-pow-succ, le_refl}
use native.Mathlib.Omega.{arith}
use mathlib.Core.Path.{◌≡◌, refl}
use mathlib.Core.List.{List, [], ◌∷◌, map}
use mathlib.Core.Bool.{Bool, true, false, ◌&&◌, cond, or-true}
use lib.ListN.{length}
use lib.Pow.{pow_pos}
use Rattle.model.specs.Cube.{Code, none, v0, v1, free, Cube, shares}
use Rattle.model.specs.Difference.{Difference}
use Rattle.model.specs.Sized.{All}
use Rattle.model.specs.Walk.{opens, children, Found, in_turn, visit, walk}
use Rattle.model.specs.Ceiling.{meeting, mark, matters, marks, ceiling_over}
use Rattle.model.proofs.Ceilings.{matters-long}
use Rattle.model.proofs.Turns.{visit-by, next-at-most}
use Rattle.model.proofs.Parts.{Part, done, keep, fix, part-self, part-trans, wider-shares, each_of, children-part}

abbrev spread : List Bool → Cube → ℕ
spread [] p = 1
spread (m ∷ ms) [] = 1
spread (m ∷ ms) (x ∷ p) = let n = spread ms p in cond (opens x v0 && m) (n + n) n

abbrev total : List Bool → List Cube → ℕ
total ms [] = 0
total ms (q ∷ qs) = spread ms q + total ms qs

-- a number, or twice the number
twice-at-most : (g : Bool) (m n : ℕ) → m ≤ n → cond g (m + m) m ≤ cond g (n + n) n
twice-at-most true m n h = omega arith
twice-at-most false m n h = h

twice-add : (g : Bool) (m n : ℕ) → cond g (m + m) m + cond g (n + n) n ≡ cond g (m + n + (m + n)) (m + n)
twice-add true m n = omega arith
twice-add false m n = refl

twice-none : (g : Bool) → 0 ≡ cond g (0 + 0) 0
twice-none true = refl
twice-none false = refl

spread-positive : (ms : List Bool) (p : Cube) → 1 ≤ spread ms p
spread-positive [] p = le_refl 1
spread-positive (m ∷ ms) [] = le_refl 1
spread-positive (m ∷ ms) (x ∷ p) = go (opens x v0 && m) (spread-positive ms p)
  where
    go : (g : Bool) → 1 ≤ spread ms p → 1 ≤ cond g (spread ms p + spread ms p) (spread ms p)
    go true h = omega arith
    go false h = h

-- no piece has more ways than 2 to the number of marks
spread-power : (ms : List Bool) (p : Cube) → spread ms p ≤ 2 ^ marks ms
unfolding marks
spread-power [] p = le_refl 1
spread-power (m ∷ ms) [] = pow_pos _
spread-power (m ∷ ms) (x ∷ p) = go (opens x v0) m (spread-power ms p)
  where
    go : (g m : Bool) → spread ms p ≤ 2 ^ marks ms → cond (g && m) (spread ms p + spread ms p) (spread ms p) ≤ 2 ^ cond m (suc (marks ms)) (marks ms)
    go true true h = rw (two-pow-succ (marks ms)) (omega arith)
    go true false h = h
    go false true h = rw (two-pow-succ (marks ms)) (omega arith)
    go false false h = h

-- the marks say of every position that the cut c fixes and p leaves free that it matters
abbrev Marked : Cube → Cube → List Bool → Type 0
Marked [] c ms = Unit {0}
Marked (x ∷ p) [] ms = Unit {0}
Marked (x ∷ p) (y ∷ c) [] = ⊥
Marked (x ∷ p) (y ∷ c) (m ∷ ms) = (opens x y ≡ true → m ≡ true) × Marked p c ms

-- the pieces to visit share out what the piece has
total_first : (m : Bool) (ms : List Bool) (x : Code) (qs : List Cube)
    → total (m ∷ ms) (map (λ q. x ∷ q) qs) ≡ cond (opens x v0 && m) (total ms qs + total ms qs) (total ms qs)
total_first m ms x [] = twice-none (opens x v0 && m)
total_first m ms x (q ∷ qs) = rw (total_first m ms x qs) (twice-add (opens x v0 && m) (spread ms q) (total ms qs))

module _ (p c : Cube) (m : Bool) (ms : List Bool) (h : total ms (children p c) ≤ spread ms p) where
  same_total : (x : Code) → total (m ∷ ms) (map (λ q. x ∷ q) (children p c)) ≤ spread (m ∷ ms) (x ∷ p)
  same_total x = rw (total_first m ms x (children p c)) (twice-at-most (opens x v0 && m) _ _ h)

  split-total : m ≡ true → (y : Code) → opens y v0 ≡ false
      → spread ms p + total (m ∷ ms) (map (λ q. y ∷ q) (children p c)) ≤ spread (m ∷ ms) (free ∷ p)
  split-total e y f = rw (total_first m ms y (children p c), f, e) (omega arith)

  first-total : (x y : Code) → (opens x y ≡ true → m ≡ true) → total (m ∷ ms) (children (x ∷ p) (y ∷ c)) ≤ spread (m ∷ ms) (x ∷ p)
  first-total none y t = same_total none
  first-total v0 y t = same_total v0
  first-total v1 y t = same_total v1
  first-total free none t = same_total free
  first-total free v0 t = split-total (t refl) v0 refl
  first-total free v1 t = split-total (t refl) v1 refl
  first-total free free t = same_total free

children-total : (p c : Cube) (ms : List Bool) → Marked p c ms → total ms (children p c) ≤ spread ms p
children-total [] c ms t = omega arith
children-total (x ∷ p) [] ms t = omega arith
children-total (x ∷ p) (y ∷ c) [] t = absurd t
children-total (x ∷ p) (y ∷ c) (m ∷ ms) t = first-total p c m ms (children-total p c ms t.1) x y t.0

-- what is marked for the base is marked for its parts
opens-wider : (x y : Code) → opens x y ≡ true → opens free y ≡ true
opens-wider none y e = cc
opens-wider v0 y e = cc
opens-wider v1 y e = cc
opens-wider free y e = e

part-marked : {p b : Cube} → Part p b → (c : Cube) (ms : List Bool) → Marked b c ms → Marked p c ms
part-marked done c ms t = tt
part-marked (keep s) [] ms t = tt
part-marked (keep s) (y ∷ c) [] t = t
part-marked (keep s) (y ∷ c) (m ∷ ms) t = (t.0, part-marked s c ms t.1)
part-marked (fix e s) [] ms t = tt
part-marked (fix e s) (y ∷ c) [] t = t
part-marked (fix {x = x} e s) (y ∷ c) (m ∷ ms) t = (λ o. t.0 (opens-wider x y o), part-marked s c ms t.1)

-- the marks of the positions that matter
mark-marked : (b c : Cube) (ms : List Bool) → length ms ≡ length b → Marked b c (mark b c ms)
unfolding mark
mark-marked [] c ms e = tt
mark-marked (x ∷ b) [] ms e = tt
mark-marked (x ∷ b) (y ∷ c) [] e = omega arith
mark-marked (x ∷ b) (y ∷ c) (m ∷ ms) e = (λ o. rw o, mark-marked b c ms (omega arith))

still_marked : (b c d : Cube) (ms : List Bool) → Marked b d ms → Marked b d (mark b c ms)
unfolding mark
still_marked [] c d ms t = tt
still_marked (x ∷ b) [] d ms t = t
still_marked (x ∷ b) (y ∷ c) [] ms t = tt
still_marked (x ∷ b) (y ∷ c) (z ∷ d) [] t = t
still_marked (x ∷ b) (y ∷ c) (z ∷ d) (m ∷ ms) t = (λ o. rw (t.0 o) (or-true (opens x y)), still_marked b c d ms t.1)

-- so they do of each cut that meets the base b
abbrev AllMarked : Cube → List Bool → List Cube → Type 0
AllMarked b ms cs = All (λ c. shares b c ≡ true → Marked b c ms) cs

all-marked : (b : Cube) (cs : List Cube) → AllMarked b (matters b cs) cs
unfolding matters
all-marked b [] = tt
all-marked b (c ∷ cs) = (λ e. rw e (mark-marked b c (matters b cs) (matters-long b cs)), each_of _ (λ d t e. go d (shares b c) (t e)) cs (all-marked b cs))
  where
    go : (d : Cube) (g : Bool) → Marked b d (matters b cs) → Marked b d (cond g (mark b c (matters b cs)) (matters b cs))
    go d true t = still_marked b c d (matters b cs) t
    go d false t = t

-- walks one after another, each of at most n times the ways of its piece
turn-total : (f : Cube → Found) (n : ℕ) (ms : List Bool) (P : Cube → Type 0) → ((x : Cube) → P x → (f x).pieces ≤ n * spread ms x)
    → (xs : List Cube) → All P xs → (in_turn f xs).pieces ≤ n * total ms xs
turn-total f n ms P t [] a = omega arith
turn-total f n ms P t (x ∷ xs) a =
    let one = t x a.0 in
    let rest = turn-total f n ms P t xs a.1 in
    rw (mul-add n (spread ms x) (total ms xs)) (omega (arith, next-at-most (f x) (in_turn f xs)))

module _ (b : Cube) (ms : List Bool) where
  part-over : (cs : List Cube) (p : Cube) → Part p b → AllMarked b ms cs → (visit cs p).pieces ≤ 1 + meeting b cs * spread ms p
  unfolding meeting
  part-over =
      visit-by (λ cs p v. Part p b → AllMarked b ms cs → v.pieces ≤ 1 + meeting b cs * spread ms p)
      (λ p s a. omega arith)
      (λ c cs p m ih s a.
      let e = wider-shares s c m in
      let k = meeting b cs in
      let t = turn-total (visit cs) (suc k) ms (λ x. Part x p) (λ x r. one k x (ih x (part-trans r s) a.1)) (children p c) (children-part p c) in
      let u = mul-le-mul_left (suc k) (children-total p c ms (part-marked s c ms (a.0 e))) in
      rw e (omega (arith, t, u)))
      (λ c cs p m ih s a. passed (shares b c) (meeting b cs) p (ih s a.1))
    where
      one : {n : ℕ} (k : ℕ) (x : Cube) → n ≤ 1 + k * spread ms x → n ≤ suc k * spread ms x
      one k x h = omega (arith, h, spread-positive ms x, suc-mul k (spread ms x))

      passed : {n : ℕ} (g : Bool) (k : ℕ) (p : Cube) → n ≤ 1 + k * spread ms p → n ≤ 1 + cond g (suc k) k * spread ms p
      passed true k p h = omega (arith, h, suc-mul k (spread ms p))
      passed false k p h = h

pub pieces-at-most-over : (d : Difference) → (walk d).pieces ≤ ceiling_over d.base d.cuts
pieces-at-most-over d =
    let b = d.base in
    let ms = matters b d.cuts in
    let u = mul-le-mul_left (meeting b d.cuts) (spread-power ms b) in
    omega (arith, part-over b ms d.cuts b (part-self b) (all-marked b d.cuts))
