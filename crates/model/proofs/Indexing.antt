-- Which of the differences that are walked one after another decides, and what that says of headers.
--   Finds d v          == the walk v tells of the difference d: no header is in it where nothing survives, and each header of a survivor is
--   Walks r vs         == vs are walks of the differences of r, one of each in their order
--   region-walks, less-walks    so are those of a region, and those of the pieces of a less b
--   in_pieces          these pieces, with the skipped ones, hold together the headers that are in a and not in b
--   Stops n r vs v i   == the walks vs of the differences of r, which come to v together, stop on the allowance n at the index i: where they come
--                         to a survivor, in the first difference with a header in it; where they are not paid for, in the first that is not
--   one-stops, region-stops, less-stops    so do the walk of a difference, those of a region, and those of the pieces of a less b
use Prim.Native.Nat.{ℕ, zero, suc, ◌≤◌, ◌<◌}
use native.Mathlib.Omega.{arith}
use mathlib.Core.Path.{◌≡◌, refl, ap, subst, ◌∙◌}
use mathlib.Core.List.{List, [], ◌∷◌, ◌++◌, map}
use mathlib.Core.Bool.{Bool, true, false, not, cond, ◌&&◌, ◌||◌}
use lib.ListN.{length, get_or}
use Rattle.model.specs.Cube.{Header, Cube, holds, shares}
use Rattle.model.specs.Difference.{Difference, less, Region, any_holds, in_difference, in_region}
use Rattle.model.specs.Algebra.{restored}
use Rattle.model.specs.Walk.{nothing, piece, Found, in_turn, walk, walk_region, walk_inclusion, given_back, walk_back, pieces_less, walks_less, stop}
use Rattle.model.specs.Index.{difference_of, Passed, Unpaid}
use Rattle.model.proofs.Cubes.{in_meet, apart_none}
use Rattle.model.proofs.Setting.{in-subtraction}
use Rattle.model.proofs.Walking.{survivor-in, nothing-in}
use Rattle.model.proofs.Stopping.{stopped-before, stopped-member, stopped-undecided, region-in-turn}
use Rattle.model.proofs.Including.{less-in-turn}

pub record Finds (d : Difference) (v : Found) : Type 0 where
  pub none : v.survivor ≡ nothing → (h : Header) → in_difference d h ≡ false
  pub some : (q : Cube) → v.survivor ≡ piece q → (h : Header) → holds q h ≡ true → in_difference d h ≡ true

pub data Walks : Region → List Found → Type 0 where
  none_left : Walks [] []
  one_more : {d : Difference} {r : Region} {v : Found} {vs : List Found} → Finds d v → Walks r vs → Walks (d ∷ r) (v ∷ vs)

walk-finds : (d : Difference) → Finds d (walk d)
walk-finds d = record { none = nothing-in d.cuts d.base; some = survivor-in d.cuts d.base }

pub region-walks : (r : Region) → Walks r (map walk r)
region-walks [] = none_left
region-walks (d ∷ r) = one_more (walk-finds d) (region-walks r)

-- a cut that shares no header with the base gives back none
back_none : (a : Difference) (c : Cube) → shares a.base c ≡ false → (h : Header) → in_difference (given_back a c) h ≡ false
back_none a c e h = ap (λ (t : Bool). t && not (any_holds a.cuts h)) (in_meet a.base c h ∙ apart_none a.base c h e)

back-finds : (a : Difference) (c : Cube) → Finds (given_back a c) (walk_back a c)
unfolding walk_back
back-finds a c = go (shares a.base c) refl
  where
    go : (b : Bool) → shares a.base c ≡ b → Finds (given_back a c) (cond b (walk (given_back a c)) (record { pieces = 0; survivor = nothing }))
    go true e = walk-finds (given_back a c)
    go false e = record { none = λ n. back_none a c e; some = λ q n h k. cc }

pub less-walks : (a b : Difference) → Walks (pieces_less a b) (walks_less a b)
less-walks a b = one_more (walk-finds (less a.base (a.cuts ++ (b.base ∷ [])))) (go b.cuts)
  where
    go : (cs : List Cube) → Walks (map (given_back a) cs) (map (walk_back a) cs)
    go [] = none_left
    go (c ∷ cs) = one_more (back-finds a c) (go cs)

pub in_pieces : (a b : Difference) (h : Header) → in_region (pieces_less a b) h ≡ in_difference a h && not (in_difference b h)
unfolding restored
in_pieces a b h = ap (λ (t : Bool). in_difference (less a.base (a.cuts ++ (b.base ∷ []))) h || t) (back b.cuts) ∙ in-subtraction a b h
  where
    back : (cs : List Cube) → in_region (map (given_back a) cs) h ≡ in_region (restored a cs) h
    back [] = refl
    back (c ∷ cs) = go (shares a.base c) refl (back cs)
      where
        go : (b : Bool) → shares a.base c ≡ b → in_region (map (given_back a) cs) h ≡ in_region (restored a cs) h
            → in_difference (given_back a c) h || in_region (map (given_back a) cs) h
            ≡ in_region (cond b (given_back a c ∷ restored a cs) (restored a cs)) h
        go true e ih = ap (λ (t : Bool). in_difference (given_back a c) h || t) ih
        go false e ih = rw (back_none a c e h) ih

-- where they stop
pub record Stops (n : ℕ) (r : Region) (vs : List Found) (v : Found) (i : ℕ) : Type 0 where
  pub shown : (q : Cube) → v.pieces ≤ n → v.survivor ≡ piece q
      → Passed r i × ((h : Header) → holds q h ≡ true → in_difference (difference_of r i) h ≡ true)
  pub late : n < v.pieces → Passed r i × Unpaid n vs i

walks-length : {r : Region} {vs : List Found} → Walks r vs → length r ≡ length vs
walks-length none_left = refl
walks-length (one_more f w) = ap suc (walks-length w)

walks_at : {r : Region} {vs : List Found} → Walks r vs → (z : Found) (i : ℕ) → i < length vs → Finds (difference_of r i) (get_or vs i z)
walks_at none_left z i l = absurd (omega arith)
walks_at (one_more f w) z zero l = f
walks_at (one_more f w) z (suc i) l = walks_at w z i (omega arith)

module _ {r : Region} {vs : List Found} (w : Walks r vs) (n : ℕ) where
  -- what stands for a walk that is not there
  no_walk : Found
  no_walk = record { pieces = 0; survivor = nothing }

  passed : stop n vs < length vs → Passed r (stop n vs)
  passed l =
      record {
        there = omega (arith, walks-length w);
        before = λ j k. (walks_at w no_walk j (omega arith)).none (stopped-before n vs no_walk j k);
      }

  stops : Stops n r vs (in_turn (λ v. v) vs) (stop n vs)
  stops =
      record {
        shown = λ q p e. let (l, s) = stopped-member n vs q no_walk p e in (passed l, (walks_at w no_walk (stop n vs) l).some q s);
        late = λ p. let (l, u) = stopped-undecided n vs p in (passed l, u);
      }

pub one-stops : (n : ℕ) (d : Difference) → Stops n (d ∷ []) (walk d ∷ []) (walk d) 0
one-stops n d =
    let first : Passed (d ∷ []) 0 = record { there = omega arith; before = λ j l. absurd (omega arith) } in
    record {
      shown = λ q p e. (first, (walk-finds d).some q e);
      late = λ p. (first, record { paid = omega arith; more = omega arith });
    }

pub region-stops : (n : ℕ) (r : Region) → Stops n r (map walk r) (walk_region r) (stop n (map walk r))
region-stops n r =
    subst (λ (v : Found). Stops n r (map walk r) v (stop n (map walk r))) (region-in-turn r) (stops (region-walks r) n)

pub less-stops : (n : ℕ) (a b : Difference) → Stops n (pieces_less a b) (walks_less a b) (walk_inclusion a b) (stop n (walks_less a b))
less-stops n a b =
    subst (λ (v : Found). Stops n (pieces_less a b) (walks_less a b) v (stop n (walks_less a b))) (less-in-turn a b) (stops (less-walks a b) n)
