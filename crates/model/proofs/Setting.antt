-- The set meaning of intersection and subtraction, and what their cubes are.
--   in-intersection       a header is in the intersection of two differences exactly when it is in both
--   in-intersections      a header is in the intersections of two regions exactly when it is in both
--   restored-back         what is given back for cuts is the difference's headers that are in one of them
--   in-subtraction        a header is in a less b exactly when it is in a and not in b: so what the cuts of b take from b comes back
--   in-subtractions       a header is in a region less a difference exactly when it is in the one and not in the other
--   good-intersection, good-intersections, good-subtraction, good-subtractions
--                         cubes of w positions and without `none` make cubes of w positions and without `none`
use Prim.Native.Nat.{ℕ}
use mathlib.Core.Path.{◌≡◌, refl, sym, ◌∙◌}
use mathlib.Core.List.{List, [], ◌∷◌}
use mathlib.Core.Bool.{Bool, true, false, not, ◌&&◌, ◌||◌, and_comm, and-false}
use Rattle.model.specs.Cube.{Header, Cube, holds, shares}
use Rattle.model.specs.Difference.{Difference, Region, any_holds, in_difference, in_region}
use Rattle.model.specs.Tidy.{each}
use Rattle.model.specs.Algebra.{intersection, intersections, restored, subtraction, subtractions}
use Rattle.model.proofs.Cubes.{in_meet, apart_none}
use Rattle.model.specs.Sized.{All, Sized, Good}
use Rattle.model.proofs.Tidying.{in-each, any_append, all_append, all-each, sized-meet}

-- a header in the bases a and b, in the cuts p and q
both-bases : (a p b q : Bool) → ((a && b) && not (p || q)) || false ≡ (a && not p) && (b && not q)
both-bases true true true q = refl
both-bases true true false q = refl
both-bases true false true true = refl
both-bases true false true false = refl
both-bases true false false q = refl
both-bases false p b q = refl

pub in-intersection : (a b : Difference) (h : Header) → in_region (intersection a b) h ≡ in_difference a h && in_difference b h
unfolding intersection
in-intersection a b h = go (shares a.base b.base) refl
  where
    bits : ((holds a.base h && holds b.base h) && not (any_holds a.cuts h || any_holds b.cuts h)) || false ≡ in_difference a h && in_difference b h
    bits = both-bases (holds a.base h) (any_holds a.cuts h) (holds b.base h) (any_holds b.cuts h)

    go : (t : Bool) → shares a.base b.base ≡ t → in_region (intersection a b) h ≡ in_difference a h && in_difference b h
    go true e = rw (e, in_meet a.base b.base h, any_append a.cuts b.cuts h) bits
    go false e = rw e (rw (apart_none a.base b.base h e) at bits)

pub in-intersections : (r s : Region) (h : Header) → in_region (intersections r s) h ≡ in_region r h && in_region s h
in-intersections r s h = in-each (λ a. each (intersection a) s) h (in_region s h) inner r
  where
    inner : (a : Difference) → in_region (each (intersection a) s) h ≡ in_difference a h && in_region s h
    inner a =
        in-each (intersection a) h (in_difference a h) (λ b. in-intersection a b h ∙ and_comm (in_difference a h) (in_difference b h)) s
        ∙ and_comm (in_region s h) (in_difference a h)

-- a header in the base a, in its cuts p, in the cut c that is given back, in the later ones s
give-back : (a p c s : Bool) → ((a && c) && not p) || ((a && not p) && s) ≡ (a && not p) && (c || s)
give-back true true true s = refl
give-back true true false s = refl
give-back true false true s = refl
give-back true false false s = refl
give-back false p c s = refl

pub restored-back : (a : Difference) (cs : List Cube) (h : Header) → in_region (restored a cs) h ≡ in_difference a h && any_holds cs h
unfolding restored
restored-back a [] h = sym (and-false (in_difference a h))
restored-back a (c ∷ cs) h = go (restored-back a cs h) (shares a.base c) refl
  where
    bits : ((holds a.base h && holds c h) && not (any_holds a.cuts h)) || (in_difference a h && any_holds cs h)
        ≡ in_difference a h && (holds c h || any_holds cs h)
    bits = give-back (holds a.base h) (any_holds a.cuts h) (holds c h) (any_holds cs h)

    go : in_region (restored a cs) h ≡ in_difference a h && any_holds cs h → (t : Bool) → shares a.base c ≡ t
        → in_region (restored a (c ∷ cs)) h ≡ in_difference a h && (holds c h || any_holds cs h)
    go ih true e = rw (e, in_meet a.base c h, ih) bits
    go ih false e = rw (e, ih) (rw (apart_none a.base c h e) at bits)

-- a header in the base a and the cuts p of one difference, in the base b and the cuts q of the other
cut-back : (a p b q : Bool) → (a && not (p || (b || false))) || ((a && not p) && q) ≡ (a && not p) && not (b && not q)
cut-back true true b q = refl
cut-back true false true true = refl
cut-back true false true false = refl
cut-back true false false true = refl
cut-back true false false false = refl
cut-back false p b q = refl

pub in-subtraction : (a b : Difference) (h : Header) → in_region (subtraction a b) h ≡ in_difference a h && not (in_difference b h)
in-subtraction a b h = rw (any_append a.cuts (b.base ∷ []) h, restored-back a b.cuts h) bits
  where
    bits : (holds a.base h && not (any_holds a.cuts h || (holds b.base h || false))) || (in_difference a h && any_holds b.cuts h)
        ≡ in_difference a h && not (in_difference b h)
    bits = cut-back (holds a.base h) (any_holds a.cuts h) (holds b.base h) (any_holds b.cuts h)

pub in-subtractions : (r : Region) (b : Difference) (h : Header) → in_region (subtractions r b) h ≡ in_region r h && not (in_difference b h)
in-subtractions r b h = in-each (λ a. subtraction a b) h (not (in_difference b h)) (λ a. in-subtraction a b h) r

-- the cubes
pub good-intersection : (w : ℕ) (a b : Difference) → Good w a → Good w b → All (Good w) (intersection a b)
unfolding intersection
good-intersection w a b p q = go (shares a.base b.base) refl
  where
    go : (t : Bool) → shares a.base b.base ≡ t → All (Good w) (intersection a b)
    go true e =
        rw e (
          record {
            base = sized-meet w a.base b.base p.base q.base e;
            cuts = all_append (Sized w) a.cuts b.cuts p.cuts q.cuts;
          },
          tt,
        )
    go false e = rw e tt

pub good-intersections : (w : ℕ) (r s : Region) → All (Good w) r → All (Good w) s → All (Good w) (intersections r s)
good-intersections w r s p q =
    all-each (Good w) (λ a. each (intersection a) s) (λ a g. all-each (Good w) (intersection a) (λ b. good-intersection w a b g) s q) r p

good-restored : (w : ℕ) (a : Difference) (cs : List Cube) → Good w a → All (Sized w) cs → All (Good w) (restored a cs)
unfolding restored
good-restored w a [] p q = tt
good-restored w a (c ∷ cs) p q = go (good-restored w a cs p q.1) (shares a.base c) refl
  where
    go : All (Good w) (restored a cs) → (t : Bool) → shares a.base c ≡ t → All (Good w) (restored a (c ∷ cs))
    go ih true e = rw e (record { base = sized-meet w a.base c p.base q.0 e; cuts = p.cuts }, ih)
    go ih false e = rw e ih

pub good-subtraction : (w : ℕ) (a b : Difference) → Good w a → Good w b → All (Good w) (subtraction a b)
good-subtraction w a b p q = (
  record { base = p.base; cuts = all_append (Sized w) a.cuts (b.base ∷ []) p.cuts (q.base, tt) },
  good-restored w a b.cuts p q.cuts,
)

pub good-subtractions : (w : ℕ) (r : Region) (b : Difference) → All (Good w) r → Good w b → All (Good w) (subtractions r b)
good-subtractions w r b p q = all-each (Good w) (λ a. subtraction a b) (λ a g. good-subtraction w a b g q) r p
