-- The set meaning of tidying, tidying twice, and the cubes of what is tidied.
--   in-append             a header is in r ++ s exactly when it is in r or in s
--   in-each               where f d has the headers of d that a test keeps, each f r has those of r
--   any_append            a header is in one of the cubes cs ++ ds exactly when it is in one of cs or of ds
--   in-tidy, in-tidy_region    tidying changes no header
--   each_append           what is made of each of r ++ s is what is made of each of r, then of s
--   tidy-tidy             tidying twice is tidying once
--   all_append, all-each  what holds of each of two lists holds of each of them in a row; what f keeps, each f keeps
--   sized-meet            cubes that are Sized w and share a header have a meet that is Sized w
--   tidy-keeps, tidy_region-keeps    what is made of Good differences by tidying is Good
use Prim.Native.Nat.{ℕ}
use native.Mathlib.Omega.{arith}
use mathlib.Core.Path.{◌≡◌, refl, sym, ap, ◌∙◌}
use mathlib.Core.List.{List, [], ◌∷◌, ◌++◌, append-nil, append_assoc}
use mathlib.Core.Bool.{Bool, true, false, not, ◌&&◌, ◌||◌, and-true, or_assoc, or-false, or_self_left, and-or_distrib_right}
use Rattle.model.specs.Cube.{Header, Cube, holds, meet, shares, same}
use Rattle.model.specs.Difference.{Difference, less, Region, any_holds, in_difference, in_region}
use Rattle.model.specs.Sized.{All, Sized, Good}
use Rattle.model.specs.Tidy.{among, tidy_from, tidy, each, tidy_region}
use Rattle.model.proofs.Cubes.{in_meet, apart_none, same-is, meet-again, length_meet}

-- regions one after another
pub in-append : (r s : Region) (h : Header) → in_region (r ++ s) h ≡ in_region r h || in_region s h
in-append [] s h = refl
in-append (d ∷ r) s h = rw (in-append r s h) (sym (or_assoc (in_difference d h) (in_region r h) (in_region s h)))

pub in-each : (f : Difference → Region) (h : Header) (keep : Bool) → ((d : Difference) → in_region (f d) h ≡ in_difference d h && keep) → (r : Region)
    → in_region (each f r) h ≡ in_region r h && keep
in-each f h keep e [] = refl
in-each f h keep e (d ∷ r) =
    rw (in-append (f d) (each f r) h, e d, in-each f h keep e r) (sym (and-or_distrib_right (in_difference d h) (in_region r h) keep))

pub any_append : (cs ds : List Cube) (h : Header) → any_holds (cs ++ ds) h ≡ any_holds cs h || any_holds ds h
any_append [] ds h = refl
any_append (c ∷ cs) ds h = rw (any_append cs ds h) (sym (or_assoc (holds c h) (any_holds cs h) (any_holds ds h)))

-- What becomes of the next cut, for whatever cuts come after it: dropped, the difference omitted, dropped, or taken.
tidy-step : (P : (List Cube → Region) → Type 0) (b : Cube) (ks : List Cube) (c : Cube) → (shares b c ≡ false → P (tidy_from b ks))
    → (same (meet b c) b ≡ true → P (λ cs. [])) → (among (meet b c) ks ≡ true → P (tidy_from b ks))
    → (shares b c ≡ true → same (meet b c) b ≡ false → among (meet b c) ks ≡ false → P (tidy_from b (ks ++ (meet b c ∷ []))))
    → P (λ cs. tidy_from b ks (c ∷ cs))
unfolding tidy_from
tidy-step P b ks c apart covered again taken = go (shares b c) (same (meet b c) b) (among (meet b c) ks) refl refl refl
  where
    go : (x y z : Bool) → shares b c ≡ x → same (meet b c) b ≡ y → among (meet b c) ks ≡ z → P (λ cs. tidy_from b ks (c ∷ cs))
    go true true z e f g = rw (e, f) (covered f)
    go true false true e f g = rw (e, f, g) (again g)
    go true false false e f g = rw (e, f, g) (taken e f g)
    go false y z e f g = rw e (apart e)

-- a header in the base b, in the kept cuts k, in the next cut c, in the later cuts s
drop-cut : (b k c s : Bool) → (b && c) || k ≡ k → b && not (k || s) ≡ b && not (k || (c || s))
drop-cut true true c s e = refl
drop-cut true false true s e = cc
drop-cut true false false s e = refl
drop-cut false k c s e = refl

take-cut : (b k c s : Bool) → b && not ((k || ((b && c) || false)) || s) ≡ b && not (k || (c || s))
take-cut true true c s = refl
take-cut true false true s = refl
take-cut true false false s = refl
take-cut false k c s = refl

omit-base : (b k c s : Bool) → b && c ≡ b → false ≡ b && not (k || (c || s))
omit-base true true c s e = refl
omit-base true false true s e = refl
omit-base true false false s e = cc
omit-base false k c s e = refl

or_later : (a b c : Bool) → a || c ≡ c → a || (b || c) ≡ b || c
or_later true true c e = refl
or_later true false c e = e
or_later false b c e = refl

among_in : (c : Cube) (ks : List Cube) (h : Header) → among c ks ≡ true → holds c h || any_holds ks h ≡ any_holds ks h
among_in c [] h e = cc
among_in c (k ∷ ks) h e = go (among_in c ks h) (same c k) refl e
  where
    go : (among c ks ≡ true → holds c h || any_holds ks h ≡ any_holds ks h) → (t : Bool) → same c k ≡ t → t || among c ks ≡ true
        → holds c h || (holds k h || any_holds ks h) ≡ holds k h || any_holds ks h
    go ih true f g = rw (same-is c k f) (or_self_left (holds k h) (any_holds ks h))
    go ih false f g = or_later (holds c h) (holds k h) (any_holds ks h) (ih g)

in-tidy_from : (b : Cube) (ks cs : List Cube) (h : Header) → in_region (tidy_from b ks cs) h ≡ holds b h && not (any_holds ks h || any_holds cs h)
unfolding tidy_from
in-tidy_from b ks [] h = rw (or-false (any_holds ks h)) (or-false (holds b h && not (any_holds ks h)))
in-tidy_from b ks (c ∷ cs) h =
    let x = holds b h in
    let k = any_holds ks h in
    let y = holds c h in
    let s = any_holds cs h in
    tidy-step (λ f. in_region (f cs) h ≡ x && not (k || (y || s))) b ks c
    (λ e. in-tidy_from b ks cs h ∙ drop-cut x k y s (rw (apart_none b c h e)))
    (λ e. omit-base x k y s (sym (in_meet b c h) ∙ rw (same-is (meet b c) b e)))
    (λ e. in-tidy_from b ks cs h ∙ drop-cut x k y s (rw (← in_meet b c h) (among_in (meet b c) ks h e)))
    (λ e f g. in-tidy_from b (ks ++ (meet b c ∷ [])) cs h ∙ rw (any_append ks (meet b c ∷ []) h, in_meet b c h) (take-cut x k y s))

pub in-tidy : (d : Difference) (h : Header) → in_region (tidy d) h ≡ in_difference d h
in-tidy d h = in-tidy_from d.base [] d.cuts h

pub in-tidy_region : (r : Region) (h : Header) → in_region (tidy_region r) h ≡ in_region r h
in-tidy_region r h = in-each tidy h true (λ d. in-tidy d h ∙ sym (and-true (in_difference d h))) r ∙ and-true (in_region r h)

-- tidying twice
pub each_append : (f : Difference → Region) (r s : Region) → each f (r ++ s) ≡ each f r ++ each f s
each_append f [] s = refl
each_append f (d ∷ r) s = rw (each_append f r s) (sym (append_assoc (f d) (each f r) (each f s)))

-- where the cuts ks leave ls kept, later cuts are taken from there on
tidy-append : (b : Cube) (js ks ls cs : List Cube) → tidy_from b js ks ≡ less b ls ∷ [] → tidy_from b js (ks ++ cs) ≡ tidy_from b ls cs
unfolding tidy_from
tidy-append b js [] ls cs e = let d : less b js ≡ less b ls = cc in ap (λ (x : Difference). tidy_from b x.cuts cs) d
tidy-append b js (k ∷ ks) ls cs e =
    tidy-step (λ f. f ks ≡ less b ls ∷ [] → f (ks ++ cs) ≡ tidy_from b ls cs) b js k
    (λ f. tidy-append b js ks ls cs)
    (λ f g. cc)
    (λ f. tidy-append b js ks ls cs)
    (λ f g h. tidy-append b (js ++ (meet b k ∷ [])) ks ls cs)
    e

-- a cut taken is taken again
tidy-taken : (b : Cube) (ks : List Cube) (c : Cube) → shares b c ≡ true → same (meet b c) b ≡ false → among (meet b c) ks ≡ false
    → tidy_from b ks (meet b c ∷ []) ≡ less b (ks ++ (meet b c ∷ [])) ∷ []
unfolding tidy_from
tidy-taken b ks c e f g = rw (meet-again b c, e, f, g)

tidied : (b : Cube) (ks cs : List Cube) → tidy_from b [] ks ≡ less b ks ∷ [] → each tidy (tidy_from b ks cs) ≡ tidy_from b ks cs
unfolding tidy_from
tidied b ks [] e = append-nil (tidy_from b [] ks) ∙ e
tidied b ks (c ∷ cs) e =
    tidy-step (λ f. each tidy (f cs) ≡ f cs) b ks c
    (λ f. tidied b ks cs e)
    (λ f. refl)
    (λ f. tidied b ks cs e)
    (λ f g h. tidied b (ks ++ (meet b c ∷ [])) cs (tidy-append b [] ks ks (meet b c ∷ []) e ∙ tidy-taken b ks c f g h))

pub tidy-tidy : (r : Region) → tidy_region (tidy_region r) ≡ tidy_region r
unfolding tidy_from
tidy-tidy [] = refl
tidy-tidy (d ∷ r) = each_append tidy (tidy d) (tidy_region r) ∙ rw (tidied d.base [] d.cuts refl, tidy-tidy r)

-- the cubes: of one width, and without `none`
pub all_append : {A : Type 0} (P : A → Type 0) (xs ys : List A) → All P xs → All P ys → All P (xs ++ ys)
all_append P [] ys p q = q
all_append P (x ∷ xs) ys p q = (p.0, all_append P xs ys p.1 q)

pub all-each : (P : Difference → Type 0) (f : Difference → Region) → ((d : Difference) → P d → All P (f d)) → (r : Region) → All P r → All P (each f r)
all-each P f g [] p = tt
all-each P f g (d ∷ r) p = all_append P (f d) (each f r) (g d p.0) (all-each P f g r p.1)

pub sized-meet : (w : ℕ) (a b : Cube) → Sized w a → Sized w b → shares a b ≡ true → Sized w (meet a b)
sized-meet w a b p q e = record { wide = length_meet a b (omega arith) ∙ p.wide; filled = e }

keeps-from : (w : ℕ) (b : Cube) (ks cs : List Cube) → Sized w b → All (Sized w) ks → All (Sized w) cs → All (Good w) (tidy_from b ks cs)
unfolding tidy_from
keeps-from w b ks [] p q r = (record { base = p; cuts = q }, tt)
keeps-from w b ks (c ∷ cs) p q r =
    tidy-step (λ f. All (Good w) (f cs)) b ks c
    (λ e. keeps-from w b ks cs p q r.1)
    (λ e. tt)
    (λ e. keeps-from w b ks cs p q r.1)
    (λ e f g. keeps-from w b (ks ++ (meet b c ∷ [])) cs p (all_append (Sized w) ks (meet b c ∷ []) q (sized-meet w b c p r.0 e, tt)) r.1)

pub tidy-keeps : (w : ℕ) (d : Difference) → Good w d → All (Good w) (tidy d)
tidy-keeps w d g = keeps-from w d.base [] d.cuts g.base tt g.cuts

pub tidy_region-keeps : (w : ℕ) (r : Region) → All (Good w) r → All (Good w) (tidy_region r)
tidy_region-keeps w r g = all-each (Good w) tidy (tidy-keeps w) r g
