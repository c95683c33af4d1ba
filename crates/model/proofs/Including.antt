-- The walk of "a in b", and what it tells.
--   back-met             a cut that shares a header with the base gives back the meet less the cuts of a
--   restored-next        what the first of some cuts gives back is walked before what the others do
--   less-in-turn         the walks of the pieces of a less b, one after another, are the walk of inclusion
--   inclusion-nothing    no survivor means that each header of a is in b
--   inclusion-survivor   the header shown of a survivor is in a and not in b
use native.Mathlib.Nat.{zero-add}
use mathlib.Core.Path.{◌≡◌, refl, sym, ap, ◌∙◌}
use mathlib.Core.List.{List, [], ◌∷◌, ◌++◌, map}
use mathlib.Core.Bool.{Bool, true, false, not, cond}
use borrow.Author.Tests.{not-true}
use Rattle.model.specs.Cube.{Header, Cube, meet, solid, shares, shown}
use Rattle.model.specs.Difference.{Difference, less, in_difference}
use Rattle.model.specs.Algebra.{restored, subtraction}
use Rattle.model.specs.Walk.{nothing, piece, Found, next, in_turn, visit, walk, walk_region, walk_inclusion, walk_back, walks_less}
use Rattle.model.proofs.Bools.{and_left, and_right, less_none}
use Rattle.model.proofs.Setting.{in-subtraction}
use Rattle.model.proofs.Walking.{SolidBases, region-survivor-shown, region-nothing-in}

-- piece by piece
pub back-met : (a : Difference) (c : Cube) → shares a.base c ≡ true → walk_back a c ≡ visit a.cuts (meet a.base c)
unfolding walk_back
back-met a c e = rw e

after_none : (v : Found) → v ≡ next (record { pieces = 0; survivor = nothing }) v
after_none v = λ i. record { pieces = sym (zero-add v.pieces) i; survivor = v.survivor }

pub restored-next : (a : Difference) (c : Cube) (cs : List Cube) → walk_region (restored a (c ∷ cs)) ≡ next (walk_back a c) (walk_region (restored a cs))
unfolding restored walk_back
restored-next a c cs = go (shares a.base c)
  where
    go : (b : Bool)
        → walk_region (cond b (less (meet a.base c) a.cuts ∷ restored a cs) (restored a cs))
        ≡ next (cond b (walk (less (meet a.base c) a.cuts)) (record { pieces = 0; survivor = nothing })) (walk_region (restored a cs))
    go true = refl
    go false = after_none (walk_region (restored a cs))

pub less-in-turn : (a b : Difference) → in_turn (λ v. v) (walks_less a b) ≡ walk_inclusion a b
unfolding restored
less-in-turn a b = ap (next (walk (less a.base (a.cuts ++ (b.base ∷ []))))) (back b.cuts)
  where
    back : (cs : List Cube) → in_turn (λ v. v) (map (walk_back a) cs) ≡ walk_region (restored a cs)
    back [] = refl
    back (c ∷ cs) = ap (next (walk_back a c)) (back cs) ∙ sym (restored-next a c cs)

-- a restored base is one that shares a header
restored-solid : (a : Difference) (cs : List Cube) → SolidBases (restored a cs)
unfolding restored
restored-solid a [] = tt
restored-solid a (c ∷ cs) = go (shares a.base c) refl (restored-solid a cs)
  where
    go : (g : Bool) → shares a.base c ≡ g → SolidBases (restored a cs)
        → SolidBases (cond g (less (meet a.base c) a.cuts ∷ restored a cs) (restored a cs))
    go true e ih = (e, ih)
    go false e ih = ih

pub inclusion-nothing : (a b : Difference) → (walk_inclusion a b).survivor ≡ nothing → (h : Header) → in_difference a h ≡ true → in_difference b h ≡ true
inclusion-nothing a b e h = less_none (in_difference a h) (in_difference b h) (sym (in-subtraction a b h) ∙ region-nothing-in (subtraction a b) e h)

pub inclusion-survivor : (a b : Difference) (q : Cube) → (walk_inclusion a b).survivor ≡ piece q → solid a.base ≡ true
    → (in_difference a (shown q) ≡ true) × (in_difference b (shown q) ≡ false)
inclusion-survivor a b q e s =
    let t = sym (in-subtraction a b (shown q)) ∙ region-survivor-shown (subtraction a b) q (s, restored-solid a b.cuts) e in (
      and_left (in_difference a (shown q)) (not (in_difference b (shown q))) t,
      not-true (in_difference b (shown q)) (and_right (in_difference a (shown q)) (not (in_difference b (shown q))) t),
    )
