-- Where a cut opens a piece, and the pieces to visit.
--   first-opens      the first position that opens does
--   children-first   the pieces to visit: the one that differs there, and then those of the piece that agrees there
--   children-none    where no position opens there is none
--   first-after      where the piece agrees with the cut, the next is a later one
--   for-some         P of the value that an Option has
--   first-found, first-left   the search for the first position ends at it, or where there is none
use Prim.Native.Nat.{ℕ, suc, ◌≤◌, ◌<◌}
use native.Mathlib.Omega.{arith}
use mathlib.Core.Path.{◌≡◌, refl, sym, subst, ap}
use mathlib.Core.Bool.{Bool, true, false, cond}
use mathlib.Core.List.{[], ◌∷◌, map}
use lib.ListN.{length, get_or, set}
use Rattle.model.specs.Cube.{Code, none, v0, v1, free, Cube}
use Rattle.model.specs.Walk.{opens, other, children}
use Rattle.visits.specs.Opening.{first_open, FirstOpen}
use Rattle.std.specs.Prelude.{Some, None}
use Rattle.std.specs.Option.{ForSome}
use Rattle.std.proofs.lemmas.Option.{none-some}

pub first-opens : (p c : Cube) → length p ≡ length c → first_open p c < length p
    → opens (get_or p (first_open p c) none) (get_or c (first_open p c) none) ≡ true
unfolding first_open
first-opens [] c e h = absurd (omega arith)
first-opens (x ∷ p) [] e h = absurd (omega arith)
first-opens (x ∷ p) (y ∷ c) e h = go (opens x y) refl h (first-opens p c (omega arith))
  where
    go : (b : Bool) → opens x y ≡ b → cond b 0 (suc (first_open p c)) < suc (length p)
        → (first_open p c < length p → opens (get_or p (first_open p c) none) (get_or c (first_open p c) none) ≡ true)
        → opens (get_or (x ∷ p) (cond b 0 (suc (first_open p c))) none) (get_or (y ∷ c) (cond b 0 (suc (first_open p c))) none) ≡ true
    go true q h ih = q
    go false q h ih = ih (omega arith)

-- a position where the piece agrees with the cut does not open
agreed : (y : Code) → opens y y ≡ false
agreed none = refl
agreed v0 = refl
agreed v1 = refl
agreed free = refl

abbrev Split : Cube → Cube → ℕ → Type 0
Split p c i = children p c ≡ set p i (other (get_or c i none)) ∷ children (set p i (get_or c i none)) c

pub children-first : (p c : Cube) → length p ≡ length c → first_open p c < length p → Split p c (first_open p c)
unfolding first_open
children-first [] c e h = absurd (omega arith)
children-first (x ∷ p) [] e h = absurd (omega arith)
children-first (x ∷ p) (y ∷ c) e h = go (opens x y) refl h (children-first p c (omega arith))
  where
    go : (b : Bool) → opens x y ≡ b → cond b 0 (suc (first_open p c)) < suc (length p) → (first_open p c < length p → Split p c (first_open p c))
        → Split (x ∷ p) (y ∷ c) (cond b 0 (suc (first_open p c)))
    go true q h ih = rw (q, agreed y)
    go false q h ih = rw (q) (ap (map (λ q. x ∷ q)) (ih (omega arith)))

pub children-none : (p c : Cube) → length p ≡ length c → length p ≤ first_open p c → children p c ≡ []
unfolding first_open
children-none [] c e h = refl
children-none (x ∷ p) [] e h = refl
children-none (x ∷ p) (y ∷ c) e h = go (opens x y) h (children-none p c (omega arith))
  where
    go : (b : Bool) → suc (length p) ≤ cond b 0 (suc (first_open p c)) → (length p ≤ first_open p c → children p c ≡ [])
        → cond b ((other y ∷ p) ∷ map (λ q. y ∷ q) (children p c)) (map (λ q. x ∷ q) (children p c)) ≡ []
    go true h ih = absurd (omega arith)
    go false h ih = rw (ih (omega arith))

pub first-after : (p c : Cube) → length p ≡ length c → first_open p c < length p
    → first_open p c < first_open (set p (first_open p c) (get_or c (first_open p c) none)) c
unfolding first_open
first-after [] c e h = absurd (omega arith)
first-after (x ∷ p) [] e h = absurd (omega arith)
first-after (x ∷ p) (y ∷ c) e h = go (opens x y) refl h (first-after p c (omega arith))
  where
    go : (b : Bool) → opens x y ≡ b → cond b 0 (suc (first_open p c)) < suc (length p)
        → (first_open p c < length p → first_open p c < first_open (set p (first_open p c) (get_or c (first_open p c) none)) c)
        → cond b 0 (suc (first_open p c)) < first_open (set (x ∷ p) (cond b 0 (suc (first_open p c)))
        (get_or (y ∷ c) (cond b 0 (suc (first_open p c))) none)) (y ∷ c)
    go true q h ih = rw (agreed y) (omega arith)
    go false q h ih = rw q (omega (arith, ih (omega arith)))

pub for-some : {A : Type 0} (P : A → Type 0) (x : A) → P x → ForSome (Some x) P
for-some P x p y e = let q : x ≡ y = cc in subst P q p

pub first-found : (p c : Cube) (i : ℕ) → i ≡ first_open p c → i < length p → FirstOpen p c (Some i)
first-found p c i e h = record { found = for-some _ i (e, h); none_left = λ z. absurd (none-some i (sym z)) }

pub first-left : (p c : Cube) → length p ≤ first_open p c → FirstOpen p c None
first-left p c h = record { found = λ i z. absurd (none-some i z); none_left = λ z. h }
