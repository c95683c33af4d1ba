-- Cubes with unused places behind their positions: as free positions they change nothing.
--   Lengths w cs        every cube of cs has w positions
--   uneven              no list is both empty and longer
--   sized-lengths       cubes of w positions have them
--   meet-pad, solid-pad, shares-pad, same-pad, within-pad, holds-pad, frees-pad    each test and operation on cubes
--   children-pad, next-pad, in-turn-pad, visit-pad    the walk
--   tidy-pad            tidying
--   from-pad            the ceiling's first bound
use Prim.Native.Nat.{ℕ, zero, suc, ◌+◌}
use native.Mathlib.Omega.{arith}
use mathlib.Core.Path.{◌≡◌, refl, sym, ap, ap₂, ◌∙◌}
use mathlib.Core.List.{List, [], ◌∷◌, ◌++◌, map, map-append}
use mathlib.Core.Bool.{Bool, true, false, ◌&&◌, ◌||◌, cond}
use lib.ListN.{length, replicate}
use Rattle.model.specs.Cube.{Header, Code, free, Cube, admits, holds, meet_code, meet, coded, solid, shares, same_code, same, within}
use Rattle.model.specs.Difference.{Region}
use Rattle.model.specs.Sized.{All, Sized}
use Rattle.model.specs.Tidy.{among, tidy_from}
use Rattle.model.specs.Walk.{opens, other, children, Found, next, in_turn, visited, visit}
use Rattle.model.specs.Ceiling.{frees, ceiling_from}
use Rattle.model.specs.Padding.{pad, pad_found, pad_difference}
use Rattle.model.proofs.Tidying.{all_append}
use Rattle.model.proofs.Turns.{visit-none, visit-met, visit-passed, visit-by, next-by}
use Rattle.model.proofs.Parts.{children-length}
use Rattle.model.proofs.Cubes.{length_meet}

abbrev pub Lengths : ℕ → List Cube → Type 0
Lengths w cs = All (λ c. length c ≡ w) cs

pub sized-lengths : (w : ℕ) (cs : List Cube) → All (Sized w) cs → Lengths w cs
sized-lengths w [] l = tt
sized-lengths w (c ∷ cs) l = (l.0.wide, sized-lengths w cs l.1)

pub uneven : {A : Type 0} (n : ℕ) → 0 ≡ suc n → A
uneven n e = absurd (omega arith)

-- cubes
free-meet : (u : ℕ) → meet (replicate u free) (replicate u free) ≡ replicate u free
free-meet zero = refl
free-meet (suc u) = ap (λ (c : Cube). free ∷ c) (free-meet u)

pub meet-pad : (u : ℕ) (a b : Cube) → length a ≡ length b → meet (pad u a) (pad u b) ≡ pad u (meet a b)
meet-pad u [] [] e = free-meet u
meet-pad u [] (y ∷ b) e = uneven (length b) e
meet-pad u (x ∷ a) [] e = uneven (length a) (sym e)
meet-pad u (x ∷ a) (y ∷ b) e = ap (λ (c : Cube). meet_code x y ∷ c) (meet-pad u a b (omega arith))

pub solid-pad : (u : ℕ) (c : Cube) → solid (pad u c) ≡ solid c
solid-pad zero [] = refl
solid-pad (suc u) [] = solid-pad u []
solid-pad u (x ∷ c) = ap (λ (b : Bool). coded x && b) (solid-pad u c)

pub shares-pad : (u : ℕ) (a b : Cube) → length a ≡ length b → shares (pad u a) (pad u b) ≡ shares a b
shares-pad u a b e = ap solid (meet-pad u a b e) ∙ solid-pad u (meet a b)

pub same-pad : (u : ℕ) (a b : Cube) → length a ≡ length b → same (pad u a) (pad u b) ≡ same a b
same-pad zero [] [] e = refl
same-pad (suc u) [] [] e = same-pad u [] [] e
same-pad u [] (y ∷ b) e = uneven (length b) e
same-pad u (x ∷ a) [] e = uneven (length a) (sym e)
same-pad u (x ∷ a) (y ∷ b) e = ap (λ (t : Bool). same_code x y && t) (same-pad u a b (omega arith))

pub within-pad : (u : ℕ) (a b : Cube) → length a ≡ length b → within (pad u a) (pad u b) ≡ within a b
within-pad u a b e = ap (λ (c : Cube). same c (pad u a)) (meet-pad u a b e) ∙ same-pad u (meet a b) a (length_meet a b e)

pub holds-pad : (u : ℕ) (c : Cube) (h r : Header) → length h ≡ length c → length r ≡ u → holds (pad u c) (h ++ r) ≡ holds c h
holds-pad zero [] [] [] e f = refl
holds-pad zero [] [] (b ∷ r) e f = uneven (length r) (sym f)
holds-pad (suc u) [] [] [] e f = uneven u f
holds-pad (suc u) [] [] (b ∷ r) e f = holds-pad u [] [] r e (omega arith)
holds-pad u [] (b ∷ h) r e f = uneven (length h) (sym e)
holds-pad u (x ∷ c) [] r e f = uneven (length c) e
holds-pad u (x ∷ c) (b ∷ h) r e f = ap (λ (t : Bool). admits x b && t) (holds-pad u c h r (omega arith) f)

-- the walk
map-cons : (u : ℕ) (y : Code) (qs : List Cube) → map (λ q. y ∷ q) (map (pad u) qs) ≡ map (pad u) (map (λ q. y ∷ q) qs)
map-cons u y [] = refl
map-cons u y (q ∷ qs) = ap (λ (l : List Cube). (y ∷ pad u q) ∷ l) (map-cons u y qs)

free-children : (u : ℕ) → children (replicate u free) (replicate u free) ≡ []
free-children zero = refl
free-children (suc u) = ap (map (λ q. free ∷ q)) (free-children u)

pub children-pad : (u : ℕ) (p c : Cube) → length p ≡ length c → children (pad u p) (pad u c) ≡ map (pad u) (children p c)
children-pad u [] [] e = free-children u
children-pad u [] (y ∷ c) e = uneven (length c) e
children-pad u (x ∷ p) [] e = uneven (length p) (sym e)
children-pad u (x ∷ p) (y ∷ c) e = go (opens x y) (children-pad u p c (omega arith))
  where
    go : (b : Bool) → children (pad u p) (pad u c) ≡ map (pad u) (children p c)
        → cond b ((other y ∷ pad u p) ∷ map (λ q. y ∷ q) (children (pad u p) (pad u c))) (map (λ q. x ∷ q) (children (pad u p) (pad u c)))
        ≡ map (pad u) (cond b ((other y ∷ p) ∷ map (λ q. y ∷ q) (children p c)) (map (λ q. x ∷ q) (children p c)))
    go true ih = ap (λ (l : List Cube). (other y ∷ pad u p) ∷ l) (ap (map (λ q. y ∷ q)) ih ∙ map-cons u y (children p c))
    go false ih = ap (map (λ q. x ∷ q)) ih ∙ map-cons u x (children p c)

pub next-pad : (u : ℕ) (a b : Found) → next (pad_found u a) (pad_found u b) ≡ pad_found u (next a b)
next-pad u a b = next-by (λ v. next (pad_found u a) (pad_found u b) ≡ pad_found u v) a b (λ e. rw e) (λ q e. rw e)

module _ {A : Type 0} (u : ℕ) (P : A → Type 0) (h : A → A) (f g : A → Found) (e : (x : A) → P x → g (h x) ≡ pad_found u (f x)) where
  pub in-turn-pad : (xs : List A) → All P xs → in_turn g (map h xs) ≡ pad_found u (in_turn f xs)
  in-turn-pad [] l = refl
  in-turn-pad (x ∷ xs) l = ap₂ next (e x l.0) (in-turn-pad xs l.1) ∙ next-pad u (f x) (in_turn f xs)

pub visit-pad : (u w : ℕ) (cs : List Cube) (p : Cube) → Lengths w cs → length p ≡ w → visit (map (pad u) cs) (pad u p) ≡ pad_found u (visit cs p)
visit-pad u w =
    visit-by (λ cs p v. Lengths w cs → length p ≡ w → visit (map (pad u) cs) (pad u p) ≡ pad_found u v)
    (λ p l e. visit-none (pad u p))
    (λ c cs p m ih l e.
    let k = e ∙ sym l.0 in
    visit-met (pad u c) (map (pad u) cs) (pad u p) (shares-pad u p c k ∙ m)
    ∙ rw (children-pad u p c k)
    (ap visited
    (in-turn-pad u (λ q. length q ≡ w) (pad u) (visit cs) (visit (map (pad u) cs)) (λ q h. ih q l.1 h) (children p c) (rw e at (children-length p c)))))
    (λ c cs p m ih l e. visit-passed (pad u c) (map (pad u) cs) (pad u p) (shares-pad u p c (e ∙ sym l.0) ∙ m) ∙ ih l.1 e)

-- the ceiling's first bound
free-frees : (u : ℕ) → frees (replicate u free) (replicate u free) ≡ 0
unfolding frees
free-frees zero = refl
free-frees (suc u) = ap (λ (n : ℕ). 0 + n) (free-frees u)

pub frees-pad : (u : ℕ) (b c : Cube) → length b ≡ length c → frees (pad u b) (pad u c) ≡ frees b c
unfolding frees
frees-pad u [] [] e = free-frees u
frees-pad u [] (y ∷ c) e = uneven (length c) e
frees-pad u (x ∷ b) [] e = uneven (length b) (sym e)
frees-pad u (x ∷ b) (y ∷ c) e = ap (λ (n : ℕ). cond (opens x y) 1 0 + n) (frees-pad u b c (omega arith))

pub from-pad : (u w : ℕ) (b : Cube) (cs : List Cube) → length b ≡ w → Lengths w cs → ceiling_from (pad u b) (map (pad u) cs) ≡ ceiling_from b cs
unfolding ceiling_from
from-pad u w b [] e l = refl
from-pad u w b (c ∷ cs) e l = rw (shares-pad u b c (e ∙ sym l.0), frees-pad u b c (e ∙ sym l.0), from-pad u w b cs e l.1)

-- tidying
among-pad : (u w : ℕ) (c : Cube) (ks : List Cube) → length c ≡ w → Lengths w ks → among (pad u c) (map (pad u) ks) ≡ among c ks
among-pad u w c [] e l = refl
among-pad u w c (k ∷ ks) e l = ap₂ (λ (a b : Bool). a || b) (same-pad u c k (e ∙ sym l.0)) (among-pad u w c ks e l.1)

pub tidy-pad : (u w : ℕ) (base : Cube) (kept cuts : List Cube) → length base ≡ w → Lengths w kept → Lengths w cuts
    → tidy_from (pad u base) (map (pad u) kept) (map (pad u) cuts) ≡ map (pad_difference u) (tidy_from base kept cuts)
unfolding tidy_from
tidy-pad u w base kept [] e k l = refl
tidy-pad u w base kept (c ∷ cuts) e k l =
    let ec = e ∙ sym l.0 in
    let em = length_meet base c ec ∙ e in
    let more = tidy-pad u w base (kept ++ (meet base c ∷ [])) cuts e (all_append (λ c. length c ≡ w) kept (meet base c ∷ []) k (em, tt)) l.1 in
    rw (
      shares-pad u base c ec,
      meet-pad u base c ec,
      same-pad u (meet base c) base (em ∙ sym e),
      among-pad u w (meet base c) kept em k,
      tidy-pad u w base kept cuts e k l.1,
      ← map-append (pad u) kept (meet base c ∷ []),
      more,
    )
    (go (shares base c) (same (meet base c) base) (among (meet base c) kept))
  where
    P : Region → Region
    P r = map (pad_difference u) r

    D : Region
    D = tidy_from base kept cuts

    M : Region
    M = tidy_from base (kept ++ (meet base c ∷ [])) cuts

    go : (s b a : Bool) → cond s (cond b [] (cond a (P D) (P M))) (P D) ≡ P (cond s (cond b [] (cond a D M)) D)
    go true true a = refl
    go true false true = refl
    go true false false = refl
    go false b a = refl
