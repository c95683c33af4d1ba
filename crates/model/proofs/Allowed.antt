-- What an allowance makes of a walk.
--   decided-when, undecided-when   a walk that the allowance pays for is decided, and no other
--   decide_by               what holds in the three cases holds of every decision: undecided, empty, a member
--   count-at-most-ceiling   no decision on an allowance up to most_pieces counts more pieces than the capped ceiling
use Prim.Native.Nat.{ℕ, ◌≤◌, ◌<◌}
use native.Mathlib.Omega.{arith}
use mathlib.Core.Path.{◌≡◌, refl}
use mathlib.Core.Bool.{Bool, true, false, cond}
use lib.Dec.{leb}
use borrow.Author.Tests.{leb-true, leb-false, le-leb, lt-leb}
use Rattle.model.specs.Cube.{Cube}
use Rattle.model.specs.Difference.{Difference}
use Rattle.model.specs.Walk.{Survivor, nothing, piece, Found, walk, Decision, undecided, empty, member, count_of, decided, decide}
use Rattle.model.specs.Ceiling.{ceiling, most_pieces, capped}
use Rattle.model.proofs.Bound.{pieces-at-most-ceiling, capped-above}

pub decided-when : (n i : ℕ) (v : Found) → v.pieces ≤ n → decide n i v ≡ decided v.pieces i v.survivor
unfolding decide
decided-when n i v h = rw (le-leb _ _ h)

pub undecided-when : (n i : ℕ) (v : Found) → n < v.pieces → decide n i v ≡ undecided n i
unfolding decide
undecided-when n i v h = rw (lt-leb _ _ h)

pub decide_by : (P : Decision → Type 0) (n i : ℕ) (v : Found) → (n < v.pieces → P (undecided n i))
    → (v.pieces ≤ n → v.survivor ≡ nothing → P (empty v.pieces))
    → ((q : Cube) → v.pieces ≤ n → v.survivor ≡ piece q → P (member v.pieces i q)) → P (decide n i v)
unfolding decide
decide_by P n i v u e m = go (leb v.pieces n) refl v.survivor refl
  where
    go : (g : Bool) → leb v.pieces n ≡ g → (s : Survivor) → v.survivor ≡ s → P (cond g (decided v.pieces i s) (undecided n i))
    go true h nothing k = e (leb-true _ _ h) k
    go true h (piece q) k = m q (leb-true _ _ h) k
    go false h s k = u (leb-false _ _ h)

-- the ceiling
pub count-at-most-ceiling : (d : Difference) (n i : ℕ) → n ≤ most_pieces → count_of (decide n i (walk d)) ≤ capped (ceiling d)
count-at-most-ceiling d n i h =
    let t = pieces-at-most-ceiling d in
    decide_by (λ e. count_of e ≤ capped (ceiling d)) n i (walk d) (λ l. capped-above n (ceiling d) h (omega arith)) (λ l s. counted l) (λ q l s. counted l)
  where
    counted : (walk d).pieces ≤ n → (walk d).pieces ≤ capped (ceiling d)
    counted l = capped-above (walk d).pieces (ceiling d) (omega arith) (pieces-at-most-ceiling d)
