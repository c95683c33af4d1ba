-- The first bound on the pieces of a walk, cut by cut, and the ceiling.
--   pieces-at-most-ceiling   the walk visits no more pieces than the ceiling
--   capped-at-most           a capped number is at most most_pieces and at most the number
--   capped-above             what is at most both is at most the capped number
--   capped_same              a number that is at most most_pieces stays
use Prim.Native.Nat.{ℕ, ◌+◌, ◌*◌, ◌≤◌}
use native.Mathlib.Nat.{suc-mul, one-mul, mul-le-mul_right, le_refl, le-min}
use native.Mathlib.Omega.{arith}
use mathlib.Core.Path.{◌≡◌, refl}
use mathlib.Core.List.{List, [], ◌∷◌, map}
use mathlib.Core.Bool.{Bool, true, false, ◌&&◌, cond, true≢false, false≢true}
use lib.Dec.{leb}
use lib.ListN.{length, length-map}
use borrow.Author.Tests.{leb-true, leb-false}
use Rattle.model.specs.Cube.{Code, none, v0, v1, free, Cube, meet_code, coded, shares}
use Rattle.model.specs.Difference.{Difference}
use Rattle.model.specs.Sized.{All}
use Rattle.model.specs.Walk.{opens, other, children, Found, in_turn, visit, walk}
use Rattle.model.specs.Ceiling.{frees, ceiling_from, ceiling, most_pieces, capped}
use Rattle.model.proofs.Bools.{and_left, and_right}
use Rattle.model.proofs.Turns.{visit-by, next-at-most}
use Rattle.model.proofs.Spread.{pieces-at-most-over}
use Rattle.model.proofs.Parts.{Part, done, keep, fix, part-self, part-trans, wider-shares, children-part}

-- walks one after another, each of at most so many pieces
turn-count : {A : Type 0} (f : A → Found) (most : ℕ) (P : A → Type 0) → ((x : A) → P x → (f x).pieces ≤ most)
    → (xs : List A) → All P xs → (in_turn f xs).pieces ≤ length xs * most
turn-count f most P t [] a = omega arith
turn-count f most P t (x ∷ xs) a =
    let one = t x a.0 in
    let rest = turn-count f most P t xs a.1 in
    rw suc-mul (omega (arith, next-at-most (f x) (in_turn f xs)))

-- the pieces to visit are at most as many as the positions that the cut frees of the base
opened-count : (x y : Code) (p c : Cube) → length (children (x ∷ p) (y ∷ c)) ≡ cond (opens x y) 1 0 + length (children p c)
opened-count x y p c = go (opens x y)
  where
    go : (g : Bool)
        → length (cond g ((other y ∷ p) ∷ map (λ q. y ∷ q) (children p c)) (map (λ q. x ∷ q) (children p c))) ≡ cond g 1 0 + length (children p c)
    go true = simp length-map (omega arith)
    go false = simp length-map (omega arith)

opens-free : (x y : Code) → cond (opens x y) 1 0 ≤ cond (opens free y) 1 0
opens-free none y = omega arith
opens-free v0 y = omega arith
opens-free v1 y = omega arith
opens-free free y = le_refl _

children-count : {p b : Cube} → Part p b → (c : Cube) → length (children p c) ≤ frees b c
unfolding frees
children-count done c = omega arith
children-count (keep s) [] = omega arith
children-count (keep {x = x} {q = p} s) (y ∷ c) = rw (opened-count x y p c) (omega (arith, children-count s c))
children-count (fix e s) [] = omega arith
children-count (fix {x = x} {q = p} e s) (y ∷ c) = rw (opened-count x y p c) (omega (arith, children-count s c, opens-free x y))

-- of a cut that a part does not meet and the base does, the base leaves a position free
clash-opens : (x y : Code) → coded x ≡ true → coded y ≡ true → coded (meet_code x y) ≡ false → opens free y ≡ true
clash-opens x none d e f = cc
clash-opens x v0 d e f = refl
clash-opens x v1 d e f = refl
clash-opens none free d e f = cc
clash-opens v0 free d e f = cc
clash-opens v1 free d e f = cc
clash-opens free free d e f = cc

-- two tests of which one fails and that share a part
and-rest : (g m n : Bool) → g && m ≡ false → g && n ≡ true → m ≡ false
and-rest true m n e f = e
and-rest false m n e f = cc

clash-frees : {p b : Cube} → Part p b → (c : Cube) → shares p c ≡ false → shares b c ≡ true → 1 ≤ frees b c
unfolding frees
clash-frees done [] e f = absurd (true≢false e)
clash-frees done (y ∷ c) e f = absurd (false≢true f)
clash-frees (keep s) [] e f = absurd (false≢true f)
clash-frees (keep {x = x} {q = p} {p = b} s) (y ∷ c) e f =
    let g = coded (meet_code x y) in
    omega (arith, clash-frees s c (and-rest g (shares p c) (shares b c) e f) (and_right g (shares b c) f))
clash-frees (fix d s) [] e f = absurd (false≢true f)
clash-frees (fix {x = x} {q = p} {p = b} d s) (y ∷ c) e f = go (coded (meet_code x y)) refl (λ q. clash-frees s c q (and_right (coded y) (shares b c) f)) e
  where
    go : (g : Bool) → coded (meet_code x y) ≡ g → (shares p c ≡ false → 1 ≤ frees b c) → g && shares p c ≡ false
        → 1 ≤ cond (opens free y) 1 0 + frees b c
    go true m ih e = omega (arith, ih e)
    go false m ih e = rw (clash-opens x y d (and_left (coded y) (shares b c) f) m) (omega arith)

part-at-most : (b : Cube) (cs : List Cube) (p : Cube) → Part p b → (visit cs p).pieces ≤ ceiling_from b cs
unfolding ceiling_from
part-at-most b =
    visit-by (λ cs p v. Part p b → v.pieces ≤ ceiling_from b cs)
    (λ p s. omega arith)
    (λ c cs p m ih s.
    let t = turn-count (visit cs) (ceiling_from b cs) (λ x. Part x p) (λ x r. ih x (part-trans r s)) (children p c) (children-part p c) in
    let u = mul-le-mul_right (ceiling_from b cs) (children-count s c) in
    rw (wider-shares s c m) (omega arith))
    (λ c cs p m ih s. passed c cs p s m (ih s) (shares b c) refl)
  where
    passed : (c : Cube) (cs : List Cube) (p : Cube) → Part p b → shares p c ≡ false → (visit cs p).pieces ≤ ceiling_from b cs → (k : Bool)
        → shares b c ≡ k
        → (visit cs p).pieces ≤ cond k (1 + frees b c * ceiling_from b cs) (ceiling_from b cs)
    passed c cs p s m ih true n =
        let t = mul-le-mul_right (ceiling_from b cs) (clash-frees s c m n) in
        omega (arith, rw one-mul at t)
    passed c cs p s m ih false n = ih

pub pieces-at-most-ceiling : (d : Difference) → (walk d).pieces ≤ ceiling d
pieces-at-most-ceiling d = le-min (part-at-most d.base d.cuts d.base (part-self d.base)) (pieces-at-most-over d)

-- the cap
pub capped-at-most : (n : ℕ) → (capped n ≤ most_pieces) × (capped n ≤ n)
capped-at-most n = go (leb most_pieces n) refl
  where
    go : (g : Bool) → leb most_pieces n ≡ g → (cond g most_pieces n ≤ most_pieces) × (cond g most_pieces n ≤ n)
    go true e = (le_refl _, leb-true most_pieces n e)
    go false e = (omega (arith, leb-false most_pieces n e), le_refl _)

pub capped-above : (m n : ℕ) → m ≤ most_pieces → m ≤ n → m ≤ capped n
capped-above m n h k = go (leb most_pieces n)
  where
    go : (g : Bool) → m ≤ cond g most_pieces n
    go true = h
    go false = k

pub capped_same : (n : ℕ) → n ≤ most_pieces → capped n ≡ n
capped_same n h = omega (arith, capped-at-most n, capped-above n n h (le_refl n))
