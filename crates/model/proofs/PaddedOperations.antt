-- Differences of w positions with u unused places behind each cube: as free positions these change nothing of what is made and walked of them.
--   tidy-padded, intersections-padded, subtractions-padded    the operations on regions
--   walk-padded, less-padded    the walk of a difference, and those of the pieces of a subtraction
--   turn-padded, stop-padded    walks one after another, and where they stop
use Prim.Native.Nat.{ℕ, ◌-◌}
use mathlib.Core.Path.{◌≡◌, refl, sym, ap, ap₂, ◌∙◌}
use mathlib.Core.List.{List, [], ◌∷◌, ◌++◌, map, map-append}
use mathlib.Core.Bool.{Bool, true, false, cond, ◌&&◌}
use lib.Dec.{leb}
use Rattle.model.specs.Cube.{Cube, meet, shares}
use Rattle.model.specs.Difference.{Difference, less, Region}
use Rattle.model.specs.Sized.{All, Sized, Good}
use Rattle.model.specs.Tidy.{tidy, each, tidy_region}
use Rattle.model.specs.Algebra.{intersection, intersections, restored, subtraction, subtractions}
use Rattle.model.specs.Walk.{Survivor, nothing, piece, Found, next, in_turn, walk, walk_back, walks_less, covered, covers, stop}
use Rattle.model.specs.Padding.{pad, pad_survivor, pad_found, pad_difference}
use Rattle.model.proofs.Padding.{sized-lengths, meet-pad, shares-pad, next-pad, visit-pad, tidy-pad}
use Rattle.model.proofs.Cubes.{length_meet}
use Rattle.model.proofs.Setting.{good-subtraction}

module _ (w u : ℕ) where
  abbrev P : Region → Region
  P r = map (pad_difference u) r

  cond-padded : (t : Bool) (r s : Region) → cond t (P r) (P s) ≡ P (cond t r s)
  cond-padded true r s = refl
  cond-padded false r s = refl

  -- the operations
  each-padded : (f g : Difference → Region) → ((d : Difference) → Good w d → f (pad_difference u d) ≡ P (g d)) → (r : Region) → All (Good w) r
      → each f (P r) ≡ P (each g r)
  each-padded f g e [] a = refl
  each-padded f g e (d ∷ r) a = rw (e d a.0, each-padded f g e r a.1) (sym (map-append (pad_difference u) (g d) (each g r)))

  pub tidy-padded : (r : Region) → All (Good w) r → tidy_region (P r) ≡ P (tidy_region r)
  tidy-padded r a = each-padded tidy tidy (λ d g. tidy-pad u w d.base [] d.cuts g.base.wide tt (sized-lengths w d.cuts g.cuts)) r a

  intersection-padded : (a b : Difference) → Good w a → Good w b → intersection (pad_difference u a) (pad_difference u b) ≡ P (intersection a b)
  unfolding intersection
  intersection-padded a b ga gb =
      let l = ga.base.wide ∙ sym gb.base.wide in
      rw (shares-pad u a.base b.base l, meet-pad u a.base b.base l, ← map-append (pad u) a.cuts b.cuts)
      (cond-padded (shares a.base b.base) (less (meet a.base b.base) (a.cuts ++ b.cuts) ∷ []) [])

  pub intersections-padded : (r s : Region) → All (Good w) r → All (Good w) s → intersections (P r) (P s) ≡ P (intersections r s)
  intersections-padded r s gr gs =
      each-padded (λ a. each (intersection a) (P s)) (λ a. each (intersection a) s)
      (λ a ga. each-padded (intersection (pad_difference u a)) (intersection a) (λ b gb. intersection-padded a b ga gb) s gs) r gr

  restored-padded : (a : Difference) → Good w a → (cs : List Cube) → All (Sized w) cs
      → restored (pad_difference u a) (map (pad u) cs) ≡ P (restored a cs)
  unfolding restored
  restored-padded a g [] l = refl
  restored-padded a g (c ∷ cs) l =
      let e = g.base.wide ∙ sym l.0.wide in
      rw (shares-pad u a.base c e, meet-pad u a.base c e, restored-padded a g cs l.1)
      (cond-padded (shares a.base c) (less (meet a.base c) a.cuts ∷ restored a cs) (restored a cs))

  subtraction-padded : (a b : Difference) → Good w a → Good w b → subtraction (pad_difference u a) (pad_difference u b) ≡ P (subtraction a b)
  subtraction-padded a b ga gb =
      ap₂ (λ (cs : List Cube) (r : Region). less (pad u a.base) cs ∷ r)
      (sym (map-append (pad u) a.cuts (b.base ∷ []))) (restored-padded a ga b.cuts gb.cuts)

  pub subtractions-padded : (r : Region) (b : Difference) → All (Good w) r → Good w b → subtractions (P r) (pad_difference u b) ≡ P (subtractions r b)
  subtractions-padded r b gr gb =
      each-padded (λ a. subtraction a (pad_difference u b)) (λ a. subtraction a b) (λ a ga. subtraction-padded a b ga gb) r gr

  -- the walks
  pub walk-padded : (d : Difference) → Good w d → walk (pad_difference u d) ≡ pad_found u (walk d)
  walk-padded d g = visit-pad u w d.cuts d.base (sized-lengths w d.cuts g.cuts) g.base.wide

  pub turn-padded : (vs : List Found) → in_turn (λ v. v) (map (pad_found u) vs) ≡ pad_found u (in_turn (λ v. v) vs)
  turn-padded [] = refl
  turn-padded (v ∷ vs) = ap (next (pad_found u v)) (turn-padded vs) ∙ next-pad u v (in_turn (λ v. v) vs)

  covers-padded : (n : ℕ) (v : Found) → covers n (pad_found u v) ≡ covers n v
  covers-padded n v = ap (λ (b : Bool). leb v.pieces n && b) (go v.survivor)
    where
      go : (s : Survivor) → covered (pad_survivor u s) ≡ covered s
      go nothing = refl
      go (piece p) = refl

  pub stop-padded : (n : ℕ) (vs : List Found) → stop n (map (pad_found u) vs) ≡ stop n vs
  unfolding stop
  stop-padded n [] = refl
  stop-padded n (v ∷ vs) = rw (covers-padded n v, stop-padded (n - v.pieces) vs)

  back-padded : (a : Difference) → Good w a → (c : Cube) → Sized w c → walk_back (pad_difference u a) (pad u c) ≡ pad_found u (walk_back a c)
  unfolding walk_back
  back-padded a g c l =
      let e = g.base.wide ∙ sym l.wide in
      let m = meet a.base c in
      rw (
        shares-pad u a.base c e,
        meet-pad u a.base c e,
        visit-pad u w a.cuts m (sized-lengths w a.cuts g.cuts) (length_meet a.base c e ∙ g.base.wide),
      ) (go (shares a.base c))
    where
      go : (b : Bool) → cond b (pad_found u (walk (less (meet a.base c) a.cuts))) (record { pieces = 0; survivor = nothing })
          ≡ pad_found u (cond b (walk (less (meet a.base c) a.cuts)) (record { pieces = 0; survivor = nothing }))
      go true = refl
      go false = refl

  pub less-padded : (a b : Difference) → Good w a → Good w b → walks_less (pad_difference u a) (pad_difference u b) ≡ map (pad_found u) (walks_less a b)
  less-padded a b g h =
      let cs = a.cuts ++ (b.base ∷ []) in
      ap₂ (λ (v : Found) (vs : List Found). v ∷ vs)
      (ap (λ (ps : List Cube). walk (less (pad u a.base) ps)) (sym (map-append (pad u) a.cuts (b.base ∷ [])))
      ∙ walk-padded (less a.base cs) (good-subtraction w a b g h).0)
      (back b.cuts h.cuts)
    where
      back : (cs : List Cube) → All (Sized w) cs → map (walk_back (pad_difference u a)) (map (pad u) cs) ≡ map (pad_found u) (map (walk_back a) cs)
      back [] l = refl
      back (c ∷ cs) l = ap₂ (λ (v : Found) (vs : List Found). v ∷ vs) (back-padded a g c l.0) (back cs l.1)
