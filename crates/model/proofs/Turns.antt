-- The walk by cases. What follows of a visit, and of walks one after another, is proved from these.
--   visit-none       with no cut left the piece survives, and one is counted
--   visit-met        the next cut meets the piece: one is counted, and the pieces to visit are visited in turn with the cuts after
--   visit-passed     the next cut shares no header with the piece: the same visit, with the cuts after
--   visit-by         what holds in these three cases holds of every visit
--   next-on          nothing survived in the first of two walks: the second goes on
--   next-stop        a piece survived in the first: it is the answer
--   next-by          what holds in these two cases holds of the two walks
--   next-at-most     two walks have no more pieces than both together
--   turn-survivor    the survivor of walks one after another is that of one of them
use Prim.Native.Nat.{ℕ, ◌+◌, ◌≤◌}
use native.Mathlib.Nat.{le_refl, le-add_right}
use native.Mathlib.Omega.{arith}
use mathlib.Core.Path.{◌≡◌, refl, sym, subst}
use mathlib.Core.List.{List, [], ◌∷◌}
use mathlib.Core.Bool.{Bool, true, false}
use Rattle.model.specs.Cube.{Cube, shares}
use Rattle.model.specs.Sized.{All}
use Rattle.model.specs.Walk.{children, Survivor, nothing, piece, Found, next, in_turn, visited, visit}

-- a visit
pub visit-none : (p : Cube) → visit [] p ≡ record { pieces = 1; survivor = piece p }
unfolding visit
visit-none p = refl

pub visit-met : (c : Cube) (cs : List Cube) (p : Cube) → shares p c ≡ true →
    let turn = in_turn (visit cs) (children p c) in
    visit (c ∷ cs) p ≡ record { pieces = 1 + turn.pieces; survivor = turn.survivor }
unfolding visit
visit-met c cs p m = rw m

pub visit-passed : (c : Cube) (cs : List Cube) (p : Cube) → shares p c ≡ false → visit (c ∷ cs) p ≡ visit cs p
unfolding visit
visit-passed c cs p m = rw m

module _ (P : List Cube → Cube → Found → Type 0)
    (none : (p : Cube) → P [] p (record { pieces = 1; survivor = piece p }))
    (met : (c : Cube) (cs : List Cube) (p : Cube) → shares p c ≡ true → ((x : Cube) → P cs x (visit cs x))
    → P (c ∷ cs) p (visited (in_turn (visit cs) (children p c))))
    (passed : (c : Cube) (cs : List Cube) (p : Cube) → shares p c ≡ false → P cs p (visit cs p) → P (c ∷ cs) p (visit cs p)) where
  pub visit-by : (cs : List Cube) (p : Cube) → P cs p (visit cs p)
  visit-by [] p = rw (visit-none p) (none p)
  visit-by (c ∷ cs) p = go (shares p c) refl (visit-by cs)
    where
      go : (g : Bool) → shares p c ≡ g → ((x : Cube) → P cs x (visit cs x)) → P (c ∷ cs) p (visit (c ∷ cs) p)
      go true m ih = rw (visit-met c cs p m) (met c cs p m ih)
      go false m ih = rw (visit-passed c cs p m) (passed c cs p m (ih p))

-- two walks
pub next-on : (u v : Found) → u.survivor ≡ nothing → next u v ≡ record { pieces = u.pieces + v.pieces; survivor = v.survivor }
next-on u v e = rw e

pub next-stop : (u v : Found) (q : Cube) → u.survivor ≡ piece q → next u v ≡ u
next-stop u v q e = rw e

pub next-by : (P : Found → Type 0) (u v : Found) → (u.survivor ≡ nothing → P (record { pieces = u.pieces + v.pieces; survivor = v.survivor }))
    → ((q : Cube) → u.survivor ≡ piece q → P u) → P (next u v)
next-by P u v on stop = go u.survivor refl
  where
    go : (s : Survivor) → u.survivor ≡ s → P (next u v)
    go nothing e = subst P (sym (next-on u v e)) (on e)
    go (piece q) e = subst P (sym (next-stop u v q e)) (stop q e)

pub next-at-most : (u v : Found) → (next u v).pieces ≤ u.pieces + v.pieces
next-at-most u v = next-by (λ w. w.pieces ≤ u.pieces + v.pieces) u v (λ e. le_refl _) (λ q e. le-add_right u.pieces _)

-- walks one after another
pub turn-survivor : {A : Type 0} (f : A → Found) (q : Cube) (P : A → Type 0) (Q : Type 0) → ((x : A) → P x → (f x).survivor ≡ piece q → Q)
    → (xs : List A) → All P xs → (in_turn f xs).survivor ≡ piece q → Q
turn-survivor f q P Q t [] a e = let z : ◌≡◌ {A = ℕ} 0 1 = cc in absurd (omega arith)
turn-survivor f q P Q t (x ∷ xs) a e =
    next-by (λ v. v.survivor ≡ piece q → Q) (f x) (in_turn f xs) (λ n. turn-survivor f q P Q t xs a.1) (λ r n. t x a.0) e
