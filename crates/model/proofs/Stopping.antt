-- Where walks stop, one after another on an allowance.
--   stop-on, stop-here    the first is covered, and the others go on with what it leaves; or it is not, and there they stop
--   stopped-before        in no walk before that one is there a survivor
--   stopped-member        where they come to a survivor and are paid for, they stop at the walk that it survives in
--   stopped-undecided     where they are not paid for, they stop at the first walk that is not
--   unpaid-one            there is no more than one such walk
--   stopped-empty         where nothing survives and all are paid for, they pass all
--   region-in-turn        the walks of the differences of a region, one after another, are the walk of the region
use Prim.Native.Nat.{ℕ, zero, suc, ◌-◌, ◌≤◌, ◌<◌}
use native.Mathlib.Omega.{arith}
use mathlib.Core.Path.{◌≡◌, refl, sym, ap, ◌∙◌}
use mathlib.Core.List.{List, [], ◌∷◌, map}
use mathlib.Core.Bool.{Bool, true, false}
use lib.Dec.{leb}
use lib.ListN.{length, get_or, take}
use borrow.Author.Tests.{leb-true, leb-false}
use Rattle.model.specs.Cube.{Cube}
use Rattle.model.specs.Difference.{Region}
use Rattle.model.specs.Walk.{Survivor, nothing, piece, Found, next, in_turn, walk, walk_region, covers, stop}
use Rattle.model.specs.Index.{pieces_of, Unpaid}
use Rattle.model.proofs.Turns.{next-on, next-stop, next-by}

module _ (n : ℕ) (v : Found) (vs : List Found) where
  pub stop-on : covers n v ≡ true → stop n (v ∷ vs) ≡ suc (stop (n - v.pieces) vs)
  unfolding stop
  stop-on e = rw e

  pub stop-here : covers n v ≡ false → stop n (v ∷ vs) ≡ 0
  unfolding stop
  stop-here e = rw e

-- what becomes of the first of several walks
data Turn (n : ℕ) (v : Found) : Type 0 where
  on : covers n v ≡ true → v.pieces ≤ n → v.survivor ≡ nothing → Turn n v
  survives : (q : Cube) → covers n v ≡ false → v.pieces ≤ n → v.survivor ≡ piece q → Turn n v
  unpaid : covers n v ≡ false → n < v.pieces → Turn n v

turn : (n : ℕ) (v : Found) → Turn n v
turn n v = go (leb v.pieces n) refl v.survivor refl
  where
    go : (b : Bool) → leb v.pieces n ≡ b → (s : Survivor) → v.survivor ≡ s → Turn n v
    go true l nothing e = on (rw (l, e)) (leb-true _ _ l) e
    go true l (piece q) e = survives q (rw (l, e)) (leb-true _ _ l) e
    go false l s e = unpaid (rw l) (leb-false _ _ l)

at_least : (n : ℕ) (u v : Found) → n < u.pieces → n < (next u v).pieces
at_least n u v l = next-by (λ w. n < w.pieces) u v (λ e. omega arith) (λ q e. l)

-- walks one after another, as one
abbrev together : List Found → Found
together vs = in_turn (λ v. v) vs

pub stopped-before : (n : ℕ) (vs : List Found) (z : Found) (j : ℕ) → j < stop n vs → (get_or vs j z).survivor ≡ nothing
unfolding stop
stopped-before n [] z j l = absurd (omega arith)
stopped-before n (v ∷ vs) z j l = go (stopped-before (n - v.pieces) vs z) (turn n v) j l
  where
    go : ((k : ℕ) → k < stop (n - v.pieces) vs → (get_or vs k z).survivor ≡ nothing) → Turn n v
        → (j : ℕ) → j < stop n (v ∷ vs) → (get_or (v ∷ vs) j z).survivor ≡ nothing
    go later (on c p s) zero l = s
    go later (on c p s) (suc j) l = later j (omega (arith, stop-on n v vs c))
    go later (survives t c p s) j l = absurd (omega (arith, stop-here n v vs c))
    go later (unpaid c p) j l = absurd (omega (arith, stop-here n v vs c))

pub stopped-member : (n : ℕ) (vs : List Found) (q : Cube) (z : Found) → (in_turn (λ v. v) vs).pieces ≤ n → (in_turn (λ v. v) vs).survivor ≡ piece q
    → (stop n vs < length vs) × ((get_or vs (stop n vs) z).survivor ≡ piece q)
stopped-member n [] q z l e = let no : ◌≡◌ {A = ℕ} 0 1 = cc in absurd (omega arith)
stopped-member n (v ∷ vs) q z l e = go (stopped-member (n - v.pieces) vs q z) (turn n v)
  where
    Later : ℕ → Type 0
    Later m = (together vs).pieces ≤ m → (together vs).survivor ≡ piece q → (stop m vs < length vs) × ((get_or vs (stop m vs) z).survivor ≡ piece q)

    go : Later (n - v.pieces) → Turn n v → (stop n (v ∷ vs) < suc (length vs)) × ((get_or (v ∷ vs) (stop n (v ∷ vs)) z).survivor ≡ piece q)
    go later (on c p s) =
        let r = next-on v (together vs) s in
        let ih = later (omega (arith, ap (λ (x : Found). x.pieces) r)) (sym (ap (λ (x : Found). x.survivor) r) ∙ e) in
        rw (stop-on n v vs c) (omega (arith, ih.0), ih.1)
    go later (survives t c p s) = rw (stop-here n v vs c) (omega arith, sym (ap (λ (x : Found). x.survivor) (next-stop v (together vs) t s)) ∙ e)
    go later (unpaid c p) = absurd (omega (arith, at_least n v (together vs) p))

pub stopped-undecided : (n : ℕ) (vs : List Found) → n < (in_turn (λ v. v) vs).pieces
    → (stop n vs < length vs) × Unpaid n vs (stop n vs)
stopped-undecided n [] l = absurd (omega arith)
stopped-undecided n (v ∷ vs) l = go (stopped-undecided (n - v.pieces) vs) (turn n v)
  where
    Later : ℕ → Type 0
    Later m = m < (together vs).pieces → (stop m vs < length vs) × Unpaid m vs (stop m vs)

    go : Later (n - v.pieces) → Turn n v → (stop n (v ∷ vs) < suc (length vs)) × Unpaid n (v ∷ vs) (stop n (v ∷ vs))
    go later (on c p s) =
        let r = next-on v (together vs) s in
        let ih = later (omega (arith, ap (λ (x : Found). x.pieces) r)) in
        rw (stop-on n v vs c) (omega (arith, ih.0), record { paid = omega (arith, ih.1.paid); more = omega (arith, ih.1.more) })
    go later (survives t c p s) = absurd (omega (arith, ap (λ (x : Found). x.pieces) (next-stop v (together vs) t s)))
    go later (unpaid c p) = rw (stop-here n v vs c) (omega arith, record { paid = omega arith; more = omega arith })

more-pieces : (vs : List Found) (i j : ℕ) → i ≤ j → pieces_of (take i vs) ≤ pieces_of (take j vs)
more-pieces vs zero j l = omega arith
more-pieces vs (suc i) zero l = absurd (omega arith)
more-pieces [] (suc i) (suc j) l = omega arith
more-pieces (v ∷ vs) (suc i) (suc j) l = omega (arith, more-pieces vs i j (omega arith))

pub unpaid-one : (n : ℕ) (vs : List Found) (i j : ℕ) → Unpaid n vs i → Unpaid n vs j → i ≡ j
unpaid-one n vs i j a b =
    let not-above : i < j → ⊥ = λ l. omega (arith, a.more, b.paid, more-pieces vs (suc i) j (omega arith)) in
    let not-below : j < i → ⊥ = λ l. omega (arith, b.more, a.paid, more-pieces vs (suc j) i (omega arith)) in
    omega arith

pub stopped-empty : (n : ℕ) (vs : List Found) → (in_turn (λ v. v) vs).pieces ≤ n → (in_turn (λ v. v) vs).survivor ≡ nothing → stop n vs ≡ length vs
unfolding stop
stopped-empty n [] l e = refl
stopped-empty n (v ∷ vs) l e = go (stopped-empty (n - v.pieces) vs) (turn n v)
  where
    Later : ℕ → Type 0
    Later m = (together vs).pieces ≤ m → (together vs).survivor ≡ nothing → stop m vs ≡ length vs

    go : Later (n - v.pieces) → Turn n v → stop n (v ∷ vs) ≡ suc (length vs)
    go later (on c p s) =
        let r = next-on v (together vs) s in
        stop-on n v vs c ∙ ap suc (later (omega (arith, ap (λ (x : Found). x.pieces) r)) (sym (ap (λ (x : Found). x.survivor) r) ∙ e))
    go later (survives t c p s) = let z : piece t ≡ nothing = sym s ∙ ap (λ (x : Found). x.survivor) (sym (next-stop v (together vs) t s)) ∙ e in cc
    go later (unpaid c p) = absurd (omega (arith, at_least n v (together vs) p))

-- the walks of a region
pub region-in-turn : (r : Region) → in_turn (λ v. v) (map walk r) ≡ walk_region r
region-in-turn [] = refl
region-in-turn (d ∷ r) = ap (next (walk d)) (region-in-turn r)
