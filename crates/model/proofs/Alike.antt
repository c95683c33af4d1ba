-- The congruence of the walk.
--   walk-alike    alike pieces have walks of the same count, and nothing survives in both or in neither
use Prim.Native.Nat.{ℕ}
use native.Mathlib.Omega.{arith}
use mathlib.Core.Path.{◌≡◌, refl, sym, subst, ◌∙◌}
use mathlib.Core.List.{List, [], ◌∷◌, map}
use mathlib.Core.Bool.{Bool, true, false, cond, true≢false, false≢true}
use Rattle.model.specs.Cube.{Code, none, v0, v1, free, Cube, meet_code, coded, shares}
use Rattle.model.specs.Walk.{opens, other, children, Survivor, nothing, piece, Found, joined, in_turn, visit}
use Rattle.model.specs.Alike.{opens_all, Alike, SameWalk}
use Rattle.model.proofs.Bools.{and_left, and_right}
use Rattle.model.proofs.Turns.{visit-none, visit-met, visit-passed, visit-by}
use Rattle.model.proofs.Parts.{Part, keep, fix, part-self, wider-shares}

-- the positions that p and q leave free get the same values, some of them: p becomes r and q becomes s
data Narrowed : Cube → Cube → Cube → Cube → Type 0 where
  rest : {p q : Cube} → Narrowed p q p q
  stay : {x y : Code} {p q r s : Cube} → Narrowed p q r s → Narrowed (x ∷ p) (y ∷ q) (x ∷ r) (y ∷ s)
  value : {z : Code} {p q r s : Cube} → coded z ≡ true → Narrowed p q r s → Narrowed (free ∷ p) (free ∷ q) (z ∷ r) (z ∷ s)

narrowed-parts : {p q r s : Cube} → Narrowed p q r s → Part r p × Part s q
narrowed-parts (rest {p = p} {q = q}) = (part-self p, part-self q)
narrowed-parts (stay n) = let t = narrowed-parts n in (keep t.0, keep t.1)
narrowed-parts (value e n) = let t = narrowed-parts n in (fix e t.0, fix e t.1)

-- a cut that both meet
narrowed-met : {p q r s : Cube} → Narrowed p q r s → (c : Cube) → shares p c ≡ true → shares q c ≡ true → opens_all p c ≡ opens_all q c
    → (shares r c ≡ shares s c) × (opens_all r c ≡ opens_all s c)
narrowed-met rest c e f o = (e ∙ sym f, o)
narrowed-met (stay n) [] e f o = (refl, refl)
narrowed-met (stay {x = x} {y = y} {p = p} {q = q} {r = r} {s = s} n) (z ∷ c) e f o =
    let t = narrowed-met n c (and_right (coded (meet_code x z)) (shares p c) e) (and_right (coded (meet_code y z)) (shares q c) f) (cc) in (
      rw (and_left (coded (meet_code x z)) (shares p c) e, and_left (coded (meet_code y z)) (shares q c) f) t.0,
      cc,
    )
narrowed-met (value d n) [] e f o = (refl, refl)
narrowed-met (value {z = z} {p = p} {q = q} d n) (y ∷ c) e f o =
    let t = narrowed-met n c (and_right (coded y) (shares p c) e) (and_right (coded y) (shares q c) f) (cc) in
    (rw t.0, cc)

-- a cut that neither meets
apart-part : {q p : Cube} → Part q p → (c : Cube) → shares p c ≡ false → shares q c ≡ false
apart-part {q} s c e = go (shares q c) refl
  where
    go : (g : Bool) → shares q c ≡ g → g ≡ false
    go true f = sym (wider-shares s c f) ∙ e
    go false f = refl

narrowed-alike : {p q r s : Cube} → Narrowed p q r s → (cs : List Cube) → Alike cs p q → Alike cs r s
narrowed-alike n [] a = tt
narrowed-alike {p} {q} {r} {s} n (c ∷ cs) a = let t = go (shares p c) refl in (t.0, t.1, narrowed-alike n cs a.2)
  where
    go : (g : Bool) → shares p c ≡ g → (shares r c ≡ shares s c) × (shares r c ≡ true → opens_all r c ≡ opens_all s c)
    go true m = let t = narrowed-met n c m (sym a.0 ∙ m) (a.1 m) in (t.0, λ k. t.1)
    go false m =
        let t = narrowed-parts n in
        let f = apart-part t.0 c m in
        (f ∙ sym (apart-part t.1 c (sym a.0 ∙ m)), λ k. absurd (true≢false (sym k ∙ f)))

-- two lists, pair by pair
abbrev Pairs : (Cube → Cube → Type 0) → List Cube → List Cube → Type 0
Pairs R [] [] = Unit {0}
Pairs R [] (y ∷ ys) = ⊥
Pairs R (x ∷ xs) [] = ⊥
Pairs R (x ∷ xs) (y ∷ ys) = R x y × Pairs R xs ys

pairs-map : (R S : Cube → Cube → Type 0) (f g : Cube → Cube) → ((x y : Cube) → R x y → S (f x) (g y)) → (xs ys : List Cube) → Pairs R xs ys → Pairs S (map f xs) (map g ys)
pairs-map R S f g t [] [] a = tt
pairs-map R S f g t [] (y ∷ ys) a = a
pairs-map R S f g t (x ∷ xs) [] a = a
pairs-map R S f g t (x ∷ xs) (y ∷ ys) a = (t x y a.0, pairs-map R S f g t xs ys a.1)

opens-true : (x y : Code) → opens x y ≡ true → (x ≡ free) × (coded y ≡ true) × (coded (other y) ≡ true)
opens-true none y e = absurd (false≢true e)
opens-true v0 y e = absurd (false≢true e)
opens-true v1 y e = absurd (false≢true e)
opens-true free none e = absurd (false≢true e)
opens-true free v0 e = (refl, refl, refl)
opens-true free v1 e = (refl, refl, refl)
opens-true free free e = absurd (false≢true e)

children-narrowed : (p q c : Cube) → shares p c ≡ true → shares q c ≡ true → opens_all p c ≡ opens_all q c → Pairs (Narrowed p q) (children p c) (children q c)
children-narrowed [] [] c e f o = tt
children-narrowed [] (y ∷ q) [] e f o = absurd (false≢true f)
children-narrowed [] (y ∷ q) (z ∷ c) e f o = absurd (false≢true e)
children-narrowed (x ∷ p) q [] e f o = absurd (false≢true e)
children-narrowed (x ∷ p) [] (z ∷ c) e f o = absurd (false≢true f)
children-narrowed (x ∷ p) (y ∷ q) (z ∷ c) e f o =
    rw (← same)
    (go (opens x z) refl (children-narrowed p q c (and_right (coded (meet_code x z)) (shares p c) e) (and_right (coded (meet_code y z)) (shares q c) f) (cc)))
  where
    same : opens x z ≡ opens y z
    same = cc

    go : (g : Bool) → opens x z ≡ g → Pairs (Narrowed p q) (children p c) (children q c)
        → Pairs (Narrowed (x ∷ p) (y ∷ q)) (cond g ((other z ∷ p) ∷ map (λ k. z ∷ k) (children p c)) (map (λ k. x ∷ k) (children p c)))
        (cond g ((other z ∷ q) ∷ map (λ k. z ∷ k) (children q c)) (map (λ k. y ∷ k) (children q c)))
    go true u ih =
        let t = opens-true x z u in
        let P : Code → Code → Type 0 = λ v w. Pairs (Narrowed (v ∷ p) (w ∷ q)) ((other z ∷ p) ∷ map (λ k. z ∷ k) (children p c)) ((other z ∷ q) ∷ map (λ k. z ∷ k) (children q c)) in
        let both : P free free =
        (value t.2 rest, pairs-map (Narrowed p q) (Narrowed (free ∷ p) (free ∷ q)) (λ k. z ∷ k) (λ k. z ∷ k) (λ r s n. value t.1 n) (children p c) (children q c) ih) in
        subst (λ v. P v y) (sym t.0) (subst (λ w. P free w) (sym (opens-true y z (sym same ∙ u)).0) both)
    go false u ih = pairs-map (Narrowed p q) (Narrowed (x ∷ p) (y ∷ q)) (λ k. x ∷ k) (λ k. y ∷ k) (λ r s n. stay n) (children p c) (children q c) ih

-- walks one after another, alike pair by pair
joined_same : (n m : ℕ) (s t : Survivor) (u v : Found) → SameWalk (record { pieces = n; survivor = s }) (record { pieces = m; survivor = t }) → SameWalk u v
    → SameWalk (joined n s u) (joined m t v)
joined_same n m nothing nothing u v e f = (omega arith, f.1, f.2)
joined_same n m nothing (piece q) u v e f = let z = e.1 refl in (cc, λ a. cc, λ a. cc)
joined_same n m (piece p) nothing u v e f = let z = e.2 refl in (cc, λ a. cc, λ a. cc)
joined_same n m (piece p) (piece q) u v e f = e

turn-same : (f : Cube → Found) (R : Cube → Cube → Type 0) → ((x y : Cube) → R x y → SameWalk (f x) (f y)) → (xs ys : List Cube) → Pairs R xs ys → SameWalk (in_turn f xs) (in_turn f ys)
turn-same f R t [] [] a = (refl, λ e. e, λ e. e)
turn-same f R t [] (y ∷ ys) a = absurd a
turn-same f R t (x ∷ xs) [] a = absurd a
turn-same f R t (x ∷ xs) (y ∷ ys) a =
    joined_same (f x).pieces (f y).pieces (f x).survivor (f y).survivor (in_turn f xs) (in_turn f ys) (t x y a.0) (turn-same f R t xs ys a.1)

pub walk-alike : (cs : List Cube) (p q : Cube) → Alike cs p q → SameWalk (visit cs p) (visit cs q)
walk-alike =
    visit-by (λ cs p v. (q : Cube) → Alike cs p q → SameWalk v (visit cs q))
    (λ p q a. rw (visit-none q) (refl, λ e. cc, λ e. cc))
    (λ c cs p m ih q a.
    let t = turn-same (visit cs) (Narrowed p q) (λ r s n. ih r s (narrowed-alike n cs a.2)) (children p c) (children q c)
    (children-narrowed p q c m (sym a.0 ∙ m) (a.1 m)) in
    rw (visit-met c cs q (sym a.0 ∙ m)) (omega arith, t.1, t.2))
    (λ c cs p m ih q a. rw (visit-passed c cs q (sym a.0 ∙ m)) (ih q a.2))
