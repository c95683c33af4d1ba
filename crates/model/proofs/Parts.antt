-- Parts of a piece.
--   Part q p                 q gives values to some of the free positions of p, and is p elsewhere
--   part-self, part-trans    a piece is a part of itself; a part of a part is a part
--   part-solid, part_length  a part of a cube without `none` has none, and is as long
--   wider-shares             a piece meets the cuts that its parts meet
--   each_of                  what follows for one follows for each
--   children-part, children-length   the pieces to visit are parts of the piece, and as long
use Prim.Native.Nat.{suc}
use mathlib.Core.Path.{◌≡◌, refl, ap, ◌∙◌}
use mathlib.Core.List.{List, [], ◌∷◌, map}
use mathlib.Core.Bool.{true}
use lib.ListN.{length}
use Rattle.model.specs.Cube.{Header, Code, none, v0, v1, free, Cube, admits, holds, meet, coded, solid, shares, shown}
use Rattle.model.specs.Sized.{All}
use Rattle.model.specs.Walk.{children}
use Rattle.model.proofs.Bools.{and_left, and_right, and_both}
use Rattle.model.proofs.Cubes.{in_meet, in-solid, shares-shown}

pub data Part : Cube → Cube → Type 0 where
  done : Part [] []
  keep : {x : Code} {q p : Cube} → Part q p → Part (x ∷ q) (x ∷ p)
  fix : {x : Code} {q p : Cube} → coded x ≡ true → Part q p → Part (x ∷ q) (free ∷ p)

pub part-self : (p : Cube) → Part p p
part-self [] = done
part-self (x ∷ p) = keep (part-self p)

pub part-trans : {r q p : Cube} → Part r q → Part q p → Part r p
part-trans done t = t
part-trans (keep s) (keep t) = keep (part-trans s t)
part-trans (keep s) (fix c t) = fix c (part-trans s t)
part-trans (fix c s) (keep t) = fix c (part-trans s t)
part-trans (fix c s) (fix d t) = fix c (part-trans s t)

pub part-solid : {q p : Cube} → Part q p → solid p ≡ true → solid q ≡ true
part-solid done e = e
part-solid (keep {x = x} {q = q} {p = p} s) e = and_both (coded x) (solid q) (and_left (coded x) (solid p) e) (part-solid s (and_right (coded x) (solid p) e))
part-solid (fix {x = x} {q = q} c s) e = and_both (coded x) (solid q) c (part-solid s e)

pub part_length : {q p : Cube} → Part q p → length q ≡ length p
part_length done = refl
part_length (keep s) = ap suc (part_length s)
part_length (fix c s) = ap suc (part_length s)

-- a part lies in the piece
part_in : {q p : Cube} → Part q p → (h : Header) → holds q h ≡ true → holds p h ≡ true
part_in done h e = e
part_in (keep s) [] e = e
part_in (keep {x = x} {q = q} {p = p} s) (b ∷ h) e =
    and_both (admits x b) (holds p h) (and_left (admits x b) (holds q h) e) (part_in s h (and_right (admits x b) (holds q h) e))
part_in (fix c s) [] e = e
part_in (fix {x = x} {q = q} c s) (b ∷ h) e = part_in s h (and_right (admits x b) (holds q h) e)

pub wider-shares : {q p : Cube} → Part q p → (c : Cube) → shares q c ≡ true → shares p c ≡ true
wider-shares {q} {p} s c e =
    let h = shown (meet q c) in
    let t = shares-shown q c e in
    in-solid (meet p c) h (in_meet p c h ∙ and_both (holds p h) (holds c h) (part_in s h (and_left (holds q h) (holds c h) t)) (and_right (holds q h) (holds c h) t))

pub each_of : {A : Type 0} {P : A → Type 0} (Q : A → Type 0) → ((x : A) → P x → Q x) → (xs : List A) → All P xs → All Q xs
each_of Q t [] e = tt
each_of Q t (x ∷ xs) e = (t x e.0, each_of Q t xs e.1)

each_map : {A B : Type 0} {P : A → Type 0} (Q : B → Type 0) (f : A → B) → ((x : A) → P x → Q (f x)) → (xs : List A) → All P xs → All Q (map f xs)
each_map Q f t [] e = tt
each_map Q f t (x ∷ xs) e = (t x e.0, each_map Q f t xs e.1)

-- a position that is not open stays as it is, and one that is takes a value
same_first : (x : Code) (p : Cube) (qs : List Cube) → All (λ q. Part q p) qs → All (λ q. Part q (x ∷ p)) (map (λ q. x ∷ q) qs)
same_first x p = each_map (λ q. Part q (x ∷ p)) (λ q. x ∷ q) (λ q s. keep s)

valued-first : (y : Code) (p : Cube) (qs : List Cube) → coded y ≡ true → All (λ q. Part q p) qs → All (λ q. Part q (free ∷ p)) (map (λ q. y ∷ q) qs)
valued-first y p qs e = each_map (λ q. Part q (free ∷ p)) (λ q. y ∷ q) (λ q s. fix e s) qs

pub children-part : (p c : Cube) → All (λ q. Part q p) (children p c)
children-part [] c = tt
children-part (x ∷ p) [] = tt
children-part (none ∷ p) (y ∷ c) = same_first none p (children p c) (children-part p c)
children-part (v0 ∷ p) (y ∷ c) = same_first v0 p (children p c) (children-part p c)
children-part (v1 ∷ p) (y ∷ c) = same_first v1 p (children p c) (children-part p c)
children-part (free ∷ p) (none ∷ c) = same_first free p (children p c) (children-part p c)
children-part (free ∷ p) (v0 ∷ c) = (fix refl (part-self p), valued-first v0 p (children p c) refl (children-part p c))
children-part (free ∷ p) (v1 ∷ c) = (fix refl (part-self p), valued-first v1 p (children p c) refl (children-part p c))
children-part (free ∷ p) (free ∷ c) = same_first free p (children p c) (children-part p c)

pub children-length : (p c : Cube) → All (λ q. length q ≡ length p) (children p c)
children-length p c = each_of (λ q. length q ≡ length p) (λ q s. part_length s) (children p c) (children-part p c)
