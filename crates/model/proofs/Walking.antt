-- The set meaning of the walk.
--   in-children      the pieces to visit hold together the headers of the piece that are not in the cut
--   survivor-solid, survivor-length   a survivor has no `none` where the piece has none, and is as long
--   survivor-in      each header of a survivor is in the piece and in no cut
--   survivor-shown   the header shown of a survivor is in the piece and in no cut
--   nothing-in       no survivor means that no header is in the difference
--   SolidBases r     the base of each difference of r has no `none`
--   region-survivor-in, region-survivor-shown, region-nothing-in
--                    survivor-in, survivor-shown and nothing-in of the walk of a region
--   walk-positive    a visit counts at least one piece
--   walk-sized, region-sized   cubes of w positions have survivors of w positions
use Prim.Native.Nat.{ℕ, ◌≤◌}
use native.Mathlib.Omega.{arith}
use mathlib.Core.Path.{◌≡◌, refl, sym, ap, subst, ◌∙◌}
use mathlib.Core.List.{List, [], ◌∷◌, map}
use mathlib.Core.Bool.{Bool, true, false, not, ◌&&◌, ◌||◌, cond, or-true, and-false, and-or_distrib_left, and-or_distrib_right}
use lib.ListN.{length}
use Rattle.model.specs.Cube.{Header, Code, none, v0, v1, free, Cube, admits, holds, meet_code, coded, solid, shares, shown}
use Rattle.model.specs.Difference.{Difference, less, Region, any_holds, in_difference, in_region}
use Rattle.model.specs.Sized.{All, Sized, Good}
use Rattle.model.specs.Walk.{opens, other, children, nothing, piece, Found, in_turn, visit, walk, walk_region}
use Rattle.model.proofs.Bools.{and_left, and_right}
use Rattle.model.proofs.Cubes.{in-shown, apart_none}
use Rattle.model.proofs.Turns.{visit-by, next-by, turn-survivor}
use Rattle.model.proofs.Parts.{Part, part-self, part-trans, part-solid, part_length, children-part}

-- the headers of cubes that begin alike
any-first : (x : Code) (qs : List Cube) (b : Bool) (h : Header) → any_holds (map (λ q. x ∷ q) qs) (b ∷ h) ≡ admits x b && any_holds qs h
any-first x [] b h = sym (and-false (admits x b))
any-first x (q ∷ qs) b h = ap (λ (t : Bool). admits x b && holds q h || t) (any-first x qs b h) ∙ sym (and-or_distrib_left (admits x b) (holds q h) (any_holds qs h))

none_first : (x : Code) (qs : List Cube) → any_holds (map (λ q. x ∷ q) qs) [] ≡ false
none_first x [] = refl
none_first x (q ∷ qs) = none_first x qs

-- one position
one-children : (x y : Code) (b m n : Bool) → coded (meet_code x y) ≡ true
    → cond (opens x y) (admits (other y) b && m || admits y b && (m && not n)) (admits x b && (m && not n)) ≡ admits x b && m && not (admits y b && n)
one-children none y b m n e = cc
one-children v0 none b m n e = cc
one-children v0 v0 true m n e = refl
one-children v0 v0 false m n e = refl
one-children v0 v1 b m n e = cc
one-children v0 free true m n e = refl
one-children v0 free false m n e = refl
one-children v1 none b m n e = cc
one-children v1 v0 b m n e = cc
one-children v1 v1 true m n e = refl
one-children v1 v1 false m n e = refl
one-children v1 free true m n e = refl
one-children v1 free false m n e = refl
one-children free none b m n e = cc
one-children free v0 true true n e = refl
one-children free v0 true false n e = refl
one-children free v0 false m n e = refl
one-children free v1 true m n e = refl
one-children free v1 false true n e = refl
one-children free v1 false false n e = refl
one-children free free b m n e = refl

pub in-children : (p c : Cube) (h : Header) → shares p c ≡ true → any_holds (children p c) h ≡ holds p h && not (holds c h)
in-children [] [] [] e = refl
in-children [] [] (b ∷ h) e = refl
in-children [] (y ∷ c) h e = cc
in-children (x ∷ p) [] h e = cc
in-children (x ∷ p) (y ∷ c) [] e = go (opens x y)
  where
    go : (g : Bool) → any_holds (cond g ((other y ∷ p) ∷ map (λ q. y ∷ q) (children p c)) (map (λ q. x ∷ q) (children p c))) [] ≡ false
    go true = none_first y (children p c)
    go false = none_first x (children p c)
in-children (x ∷ p) (y ∷ c) (b ∷ h) e =
    go (opens x y) ∙ rw (in-children p c h (and_right (coded (meet_code x y)) (shares p c) e))
    (one-children x y b (holds p h) (holds c h) (and_left (coded (meet_code x y)) (shares p c) e))
  where
    go : (g : Bool)
        → any_holds (cond g ((other y ∷ p) ∷ map (λ q. y ∷ q) (children p c)) (map (λ q. x ∷ q) (children p c))) (b ∷ h)
        ≡ cond g (admits (other y) b && holds p h || admits y b && any_holds (children p c) h) (admits x b && any_holds (children p c) h)
    go true = ap (λ (t : Bool). admits (other y) b && holds p h || t) (any-first y (children p c) b h)
    go false = any-first x (children p c) b h

-- the headers of a difference, by whether its first cut is met
less-more : (m n k : Bool) → m && not (n || k) ≡ m && not n && not k
less-more true true k = refl
less-more true false k = refl
less-more false n k = refl

less-apart : (m n : Bool) → m && n ≡ false → m && not n ≡ m
less-apart true true e = sym e
less-apart true false e = refl
less-apart false n e = refl

in-met : (c : Cube) (cs : List Cube) (p : Cube) (h : Header) → shares p c ≡ true → in_difference (less p (c ∷ cs)) h ≡ any_holds (children p c) h && not (any_holds cs h)
in-met c cs p h e = less-more (holds p h) (holds c h) (any_holds cs h) ∙ rw (in-children p c h e)

in-passed : (c : Cube) (cs : List Cube) (p : Cube) (h : Header) → shares p c ≡ false → in_difference (less p (c ∷ cs)) h ≡ in_difference (less p cs) h
in-passed c cs p h e = less-more (holds p h) (holds c h) (any_holds cs h) ∙ rw (less-apart (holds p h) (holds c h) (apart_none p c h e))

-- walks one after another, of things that a header is in
module _ {A : Type 0} (f : A → Found) (one : A → Bool) (any : List A → Bool) (more : (x : A) (xs : List A) → any (x ∷ xs) ≡ one x || any xs) where
  turn_in : (q : Cube) → ((x : A) → (f x).survivor ≡ piece q → one x ≡ true) → (xs : List A) → (in_turn f xs).survivor ≡ piece q → any xs ≡ true
  turn_in q t [] e = cc
  turn_in q t (x ∷ xs) e =
      more x xs
      ∙ next-by (λ v. v.survivor ≡ piece q → one x || any xs ≡ true) (f x) (in_turn f xs)
      (λ n l. rw (turn_in q t xs l) (or-true (one x))) (λ r n l. rw (t x l)) e

  turn-out : any [] ≡ false → ((x : A) → (f x).survivor ≡ nothing → one x ≡ false) → (xs : List A) → (in_turn f xs).survivor ≡ nothing → any xs ≡ false
  turn-out z t [] e = z
  turn-out z t (x ∷ xs) e =
      more x xs
      ∙ next-by (λ v. v.survivor ≡ nothing → one x || any xs ≡ false) (f x) (in_turn f xs)
      (λ n l. rw (t x n) (turn-out z t xs l)) (λ r n l. cc) e

-- one visit: what survives is a part of the piece
survivor-part : (cs : List Cube) (p q : Cube) → (visit cs p).survivor ≡ piece q → Part q p
survivor-part cs p q =
    visit-by (λ cs p v. v.survivor ≡ piece q → Part q p)
    (λ p e. let z : p ≡ q = cc in subst (λ (r : Cube). Part r p) z (part-self p))
    (λ c cs p m ih. turn-survivor (visit cs) q (λ x. Part x p) (Part q p) (λ x s f. part-trans (ih x f) s) (children p c) (children-part p c))
    (λ c cs p m ih. ih) cs p

pub survivor-solid : (cs : List Cube) (p q : Cube) → solid p ≡ true → (visit cs p).survivor ≡ piece q → solid q ≡ true
survivor-solid cs p q s e = part-solid (survivor-part cs p q e) s

pub survivor-length : (cs : List Cube) (p q : Cube) → (visit cs p).survivor ≡ piece q → length q ≡ length p
survivor-length cs p q e = part_length (survivor-part cs p q e)

pub survivor-in : (cs : List Cube) (p q : Cube) → (visit cs p).survivor ≡ piece q → (h : Header) → holds q h ≡ true → in_difference (less p cs) h ≡ true
survivor-in cs p q e h i =
    visit-by (λ cs p v. v.survivor ≡ piece q → in_difference (less p cs) h ≡ true)
    (λ p e. let z : p ≡ q = cc in rw (z, i))
    (λ c cs p m ih e.
    in-met c cs p h m
    ∙ turn_in (visit cs) (λ x. in_difference (less x cs) h) (λ xs. any_holds xs h && not (any_holds cs h))
    (λ x xs. and-or_distrib_right (holds x h) (any_holds xs h) (not (any_holds cs h))) q ih (children p c) e)
    (λ c cs p m ih e. in-passed c cs p h m ∙ ih e) cs p e

pub survivor-shown : (cs : List Cube) (p q : Cube) → solid p ≡ true → (visit cs p).survivor ≡ piece q → in_difference (less p cs) (shown q) ≡ true
survivor-shown cs p q s e = survivor-in cs p q e (shown q) (in-shown q (survivor-solid cs p q s e))

pub nothing-in : (cs : List Cube) (p : Cube) → (visit cs p).survivor ≡ nothing → (h : Header) → in_difference (less p cs) h ≡ false
nothing-in cs p e h =
    visit-by (λ cs p v. v.survivor ≡ nothing → in_difference (less p cs) h ≡ false)
    (λ p e. cc)
    (λ c cs p m ih e.
    in-met c cs p h m
    ∙ turn-out (visit cs) (λ x. in_difference (less x cs) h) (λ xs. any_holds xs h && not (any_holds cs h))
    (λ x xs. and-or_distrib_right (holds x h) (any_holds xs h) (not (any_holds cs h))) refl ih (children p c) e)
    (λ c cs p m ih e. in-passed c cs p h m ∙ ih e) cs p e

pub walk-positive : (cs : List Cube) (p : Cube) → 1 ≤ (visit cs p).pieces
walk-positive = visit-by (λ cs p v. 1 ≤ v.pieces) (λ p. omega arith) (λ c cs p m ih. omega arith) (λ c cs p m ih. ih)

pub walk-sized : (w : ℕ) (d : Difference) → Good w d → (q : Cube) → (walk d).survivor ≡ piece q → Sized w q
walk-sized w d g q e =
    record {
      wide = survivor-length d.cuts d.base q e ∙ g.base.wide;
      filled = survivor-solid d.cuts d.base q g.base.filled e;
    }

-- a region
abbrev pub SolidBases : Region → Type 0
SolidBases r = All (λ d. solid d.base ≡ true) r

pub region-survivor-in : (r : Region) (q : Cube) → (walk_region r).survivor ≡ piece q → (h : Header) → holds q h ≡ true → in_region r h ≡ true
region-survivor-in r q e h i = turn_in walk (λ d. in_difference d h) (λ r. in_region r h) (λ d r. refl) q (λ d f. survivor-in d.cuts d.base q f h i) r e

pub region-survivor-shown : (r : Region) (q : Cube) → SolidBases r → (walk_region r).survivor ≡ piece q → in_region r (shown q) ≡ true
region-survivor-shown r q s e =
    let t : solid q ≡ true = turn-survivor walk q (λ d. solid d.base ≡ true) (solid q ≡ true) (λ d b f. survivor-solid d.cuts d.base q b f) r s e in
    region-survivor-in r q e (shown q) (in-shown q t)

pub region-nothing-in : (r : Region) → (walk_region r).survivor ≡ nothing → (h : Header) → in_region r h ≡ false
region-nothing-in r e h = turn-out walk (λ d. in_difference d h) (λ r. in_region r h) (λ d r. refl) refl (λ d f. nothing-in d.cuts d.base f h) r e

pub region-sized : (w : ℕ) (r : Region) → All (Good w) r → (q : Cube) → (walk_region r).survivor ≡ piece q → Sized w q
region-sized w r g q = turn-survivor walk q (Good w) (Sized w q) (λ d k. walk-sized w d k q) r g
