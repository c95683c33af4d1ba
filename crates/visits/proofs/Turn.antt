-- What a visit does, in plain terms: how it begins, and one turn of its loop over the positions that the cut opens.
--   begin-survives, begin-split    no cut meets the piece, or one does: what is left to visit
--   turn_end          no position opens: the piece is covered
--   turn-covered, turn-stop    the child is covered, and the loop goes on; or what it says is the answer
use Prim.Native.Nat.{ℕ, ◌≤◌, ◌<◌}
use native.Mathlib.Omega.{arith}
use mathlib.Core.Path.{◌≡◌, sym, ◌∙◌}
use mathlib.Core.Bool.{true}
use mathlib.Core.List.{List, [], ◌∷◌}
use lib.ListN.{length, get_or, set}
use Rattle.model.specs.Cube.{Code, none, Cube, shares}
use Rattle.model.specs.Walk.{Found, piece, other, in_turn, next, children, visit}
use Rattle.visits.specs.Opening.{first_open}
use Rattle.visits.specs.Settle.{Said, after, settle, left_from}
use Rattle.visits.specs.declared.allowance.Allowance.{Allowance}
use Rattle.visits.specs.declared.allowance.Verdict.TheVariants.{Covered, Survives}
use Rattle.model.proofs.Turns.{visit-none, visit-met}
use Rattle.visits.proofs.Openings.{children-first, children-none}
use Rattle.visits.proofs.Settle.{settle-le, settle-on, settle-zero, said-on, said-stop}

-- a visit of p with the cuts cs is paid for
module _ (cs : List Cube) (p : Cube) (a b : Allowance) (pays : 0 < a.left) (paid : b ≡ after a 1) where
  -- no cut meets it
  pub begin-survives : visit cs p ≡ visit [] p → record { allowance = b; verdict = Survives; piece = p } ≡ settle a (visit cs p)
  begin-survives e = rw (e, visit-none p, settle-le a (record { pieces = 1; survivor = piece p }) pays, paid)

  -- a cut does
  pub begin-split : (c : Cube) (later : List Cube) → visit cs p ≡ visit (c ∷ later) p → shares p c ≡ true
      → settle a (visit cs p) ≡ left_from (visit later) c b p
  unfolding left_from
  begin-split c later e m = rw (e, visit-met c later p m, paid) (settle-on a 1 _ pays)

module _ (f : Cube → Found) (cut near : Cube) (have : Allowance) (l : length near ≡ length cut) where
  -- no position opens
  pub turn_end : length near ≤ first_open near cut → left_from f cut have near ≡ record { allowance = have; verdict = Covered; piece = [] }
  unfolding left_from
  turn_end h = rw (children-none near cut l h) (settle-zero have)

  -- the position i opens: y is the cut's code there, z the other value's, and v what the visit of the child says
  module _ (i : ℕ) (first : i ≡ first_open near cut) (h : i < length near) (y z : Code) (ey : y ≡ get_or cut i none) (ez : z ≡ other y)
      (child : Cube) (c : child ≡ set near i z) (v : Said) (r : v ≡ settle have (f child)) where
    opened : left_from f cut have near ≡ settle have (next (f child) (in_turn f (children (set near i y) cut)))
    unfolding left_from
    opened = rw (children-first near cut l (omega arith), ← first, ← ey, ← ez, ← c)

    -- the child is covered: the piece that agrees there goes on with what it left
    pub turn-covered : v.verdict ≡ Covered → left_from f cut have near ≡ left_from f cut v.allowance (set near i y)
    unfolding left_from
    turn-covered q = opened ∙ said-on have (f child) _ v r q

    -- it is not: that is the answer
    pub turn-stop : (v.verdict ≡ Covered → ⊥) → left_from f cut have near ≡ v
    turn-stop q = opened ∙ sym (said-stop have (f child) _ v r q)
