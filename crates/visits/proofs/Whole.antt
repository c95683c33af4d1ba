-- The walk over words is the walk over bytes.
--   cut-whole, loaded-cuts    the rows are the cuts, with free places behind them
--   loaded-alive      what the base meets of them
--   first-met, first-none, first-passed    a cut before the last 64 that the base meets, none, and one that may be passed over
--   whole             the walk over the rows is the walk over the bytes, with free places behind its cubes
--   in-bytes-says     where a reply says that walk, its outcome in bytes says the walk without these places
--   resumed-fits, resumed-says    what a smaller allowance decided, the whole allowance decides
--   zeros             a list of zeros has 0 everywhere
use Prim.Native.Nat.{ℕ, zero, suc, ◌+◌, ◌-◌, ◌*◌, ◌≤◌, ◌<◌, min}
use native.Mathlib.Nat.{suc-mul, zero-mul, mul-le-mul_right}
use native.Mathlib.Omega.{arith}
use mathlib.Core.Path.{◌≡◌, refl, sym, ap, ◌∙◌}
use mathlib.Core.Bool.{Bool, true, false, cond}
use mathlib.Core.Logic.{⊎_elim}
use mathlib.Core.List.{List, [], ◌∷◌, map}
use lib.ListN.{length, get_or, take, replicate}
use Rattle.model.specs.Cube.{Code, Cube, shares}
use Rattle.model.specs.Walk.{Survivor, nothing, piece, Found, visit}
use Rattle.model.specs.Padding.{pad, pad_survivor, pad_found}
use Rattle.model.proofs.Padding.{Lengths, shares-pad, visit-pad}
use Rattle.cube.specs.Whole.{cube_of, whole_at, wholes_at}
use Rattle.cube.proofs.Member.{codes-take}
use Rattle.visits.specs.Settle.{Said, kept, says, after, said_of, settle}
use Rattle.visits.specs.Words.{cube_of_words, row_cube, cuts_below}
use Rattle.visits.specs.Alive.{Alive}
use Rattle.format.specs.Bytes.{codes}
use Rattle.cube.specs.declared.row.Row.{Row}
use Rattle.visits.specs.Opening.{bit}
use Rattle.visits.specs.Cuts.{cubes_of}
use Rattle.visits.specs.Loading.{cut_in, Loaded, Met}
use Rattle.visits.proofs.CutRows.{row-cubes}
use Rattle.visits.specs.Replies.{tells, InBytes}
use Rattle.visits.specs.Walked.{Resumed}
use Rattle.visits.specs.declared.allowance.Allowance.{Allowance}
use Rattle.visits.specs.declared.allowance.Outcome.{Outcome}
use Rattle.visits.specs.declared.allowance.Verdict.{Verdict}
use Rattle.visits.specs.declared.allowance.Verdict.TheVariants.{Covered, Survives, Undecided}
use Rattle.visits.proofs.Settle.{settle-le, settle-lt, said-allowance}
use Rattle.visits.proofs.Step.{cut-length}
use Rattle.visits.proofs.Digits.{below_or}
use Rattle.visits.proofs.Meeting.{rows-passed}

from-lengths : (q : ℕ) (s : List ℕ) (at n : ℕ) → at + n * q ≤ length s → Lengths (4 * q) (wholes_at q s at n)
unfolding wholes_at
from-lengths q s at zero h = tt
from-lengths q s at (suc n) h = let e = suc-mul n q in (cut-length q s at (omega arith), from-lengths q s (at + q) n (omega arith))

with-allowance : (a b : Allowance) (s : Survivor)
    → ◌≡◌ {A = Said} (record { allowance = a; verdict = (said_of b s).verdict; piece = (said_of b s).piece }) (said_of a s)
with-allowance a b nothing = refl
with-allowance a b (piece p) = refl

cut-whole : (r : Row) (m : ℕ) → codes (cut_in r m) ≡ whole_at r.size r.bytes.now ((r.count - 1 - m) * r.size)
unfolding cut_in whole_at cube_of
cut-whole r m = refl

module _ (r : Row) (cuts : List (List ℕ)) (l : Loaded r cuts r.count) where
  loaded-cuts : (k : ℕ) → k ≤ r.count → cuts_below cuts k ≡ map (pad (320 - 4 * r.size)) (wholes_at r.size r.bytes.now ((r.count - k) * r.size) k)
  unfolding cuts_below wholes_at
  loaded-cuts zero h = refl
  loaded-cuts (suc k) h =
      let a : r.count - 1 - k ≡ r.count - suc k = omega arith in
      let b : r.count - k ≡ suc (r.count - suc k) = omega arith in
      let e : (r.count - suc k) * r.size + r.size ≡ (r.count - k) * r.size = rw (b, suc-mul (r.count - suc k) r.size) (omega arith) in
      rw (l k (omega arith), cut-whole r k, a, e, loaded-cuts k (omega arith))

  -- the base, in bytes and in words
  module _ (p P : Cube) (lp : length p ≡ 4 * r.size) (eP : P ≡ pad (320 - 4 * r.size) p) where
    row-length : (j : ℕ) → j < r.count → length (codes (cut_in r j)) ≡ 4 * r.size
    row-length j h =
        let b : r.count - j ≡ suc (r.count - 1 - j) = omega arith in
        let e : (r.count - j) * r.size ≡ (r.count - 1 - j) * r.size + r.size = rw (b, suc-mul (r.count - 1 - j) r.size) in
        let c : (r.count - j) * r.size ≤ r.count * r.size = mul-le-mul_right r.size (omega arith) in
        rw (cut-whole r j) (cut-length r.size r.bytes.now ((r.count - 1 - j) * r.size) (omega (arith, r.within)))

    row-shares : (j : ℕ) → j < r.count → shares P (row_cube cuts j) ≡ shares p (codes (cut_in r j))
    row-shares j h = rw (eP, l j h) (shares-pad (320 - 4 * r.size) p (codes (cut_in r j)) (lp ∙ sym (row-length j h)))

    pub loaded-alive : (n x : ℕ) → n ≤ r.count → Met r p n x → Alive cuts n P x
    loaded-alive n x h m = (m.0, λ j k. m.1 j k ∙ ap bit (sym (row-shares j (omega arith))))

    -- the cut before the last 64, where there is one
    pub first-met : (n : ℕ) → n < r.count → shares p (codes (cut_in r n)) ≡ true → shares P (row_cube cuts n) ≡ true
    first-met n h e = row-shares n h ∙ e

    pub first-none : (n : ℕ) → n ≡ min r.count 64 → r.count ≤ n → visit (cuts_below cuts n) P ≡ visit (cuts_below cuts r.count) P
    first-none n en h = let e : n ≡ r.count = omega arith in rw e

    pub first-passed : (n : ℕ) (b : Bool) → n ≡ min r.count 64 → r.count ≤ 65 → n < r.count → b ≡ shares p (codes (cut_in r n))
        → visit (cuts_below cuts (cond b (suc n) n)) P ≡ visit (cuts_below cuts r.count) P
    first-passed n b en h k eb = let e : r.count ≡ suc n = omega arith in rw e (go b refl)
      where
        go : (g : Bool) → b ≡ g → visit (cuts_below cuts (cond g (suc n) n)) P ≡ visit (cuts_below cuts (suc n)) P
        go true w = refl
        go false w = sym (rows-passed cuts n P (row-shares n k ∙ sym eb ∙ w))

    pub whole : pad_found (320 - 4 * r.size) (visit (cubes_of r) p) ≡ visit (cuts_below cuts r.count) P
    whole =
        let z : (r.count - r.count) * r.size ≡ 0 = let y : r.count - r.count ≡ 0 = omega arith in rw (y, zero-mul) in
        let t : pad_found (320 - 4 * r.size) (visit (wholes_at r.size r.bytes.now 0 r.count) p) ≡ visit (cuts_below cuts r.count) P =
        sym (visit-pad (320 - 4 * r.size) (4 * r.size) (wholes_at r.size r.bytes.now 0 r.count) p
        (from-lengths r.size r.bytes.now 0 r.count (omega (arith, r.within))) lp)
        ∙ rw (eP, loaded-cuts r.count (omega arith), z) in
        rw (row-cubes r) t

-- a cube with its free places taken off again
take-pad : (w u : ℕ) (p : Cube) → length p ≡ w → take w (pad u p) ≡ p
take-pad zero u [] e = take_none (pad u [])
  where
    take_none : (c : Cube) → take 0 c ≡ []
    take_none c = refl
take-pad zero u (x ∷ p) e = absurd (omega arith)
take-pad (suc w) u [] e = absurd (omega arith)
take-pad (suc w) u (x ∷ p) e = ap (λ (c : Cube). x ∷ c) (take-pad w u p (omega arith))

kept-take : (k : Verdict) (w : ℕ) (p : Cube) → kept k (take w p) ≡ take w (kept k p)
kept-take Covered zero p = refl
kept-take Covered (suc w) p = refl
kept-take Survives w p = refl
kept-take Undecided zero p = refl
kept-take Undecided (suc w) p = refl

abbrev trim : ℕ → Said → Said
trim w d = record { allowance = d.allowance; verdict = d.verdict; piece = take w d.piece }

trim-settle : (w u : ℕ) (a : Allowance) (v : Found) → ((p : Cube) → v.survivor ≡ piece p → length p ≡ w)
    → trim w (settle a (pad_found u v)) ≡ settle a v
trim-settle w u a v h = ⊎_elim short enough (below_or a.left v.pieces)
  where
    take-nil : (w : ℕ) → take {A = Code} w [] ≡ []
    take-nil zero = refl
    take-nil (suc w) = refl

    said : (s : Survivor) → v.survivor ≡ s → trim w (said_of (after a v.pieces) (pad_survivor u s)) ≡ said_of (after a v.pieces) s
    said nothing e = rw (take-nil w)
    said (piece p) e = rw (take-pad w u p (h p e))

    enough : v.pieces ≤ a.left → trim w (settle a (pad_found u v)) ≡ settle a v
    enough k = rw (settle-le a (pad_found u v) k, settle-le a v k) (said v.survivor refl)

    short : a.left < v.pieces → trim w (settle a (pad_found u v)) ≡ settle a v
    short k = rw (settle-lt a (pad_found u v) k, settle-lt a v k, take-nil w)

pub in-bytes-says : (q u : ℕ) (a : Allowance) (v : Found) (r o : Outcome (List ℕ)) → ((p : Cube) → v.survivor ≡ piece p → length p ≡ 4 * q)
    → tells r ≡ settle a (pad_found u v) → InBytes r o → says q o ≡ settle a v
unfolding cube_of
in-bytes-says q u a v r o h e t =
    rw (t.allowance, t.verdict, codes-take q o.piece, t.piece, kept-take r.verdict (4 * q) (cube_of_words r.piece))
    (ap (trim (4 * q)) e ∙ trim-settle (4 * q) u a v h)

-- a smaller allowance
module _ (q few : ℕ) (a b : Allowance) (v : Found) (r : Outcome (List ℕ)) (is : b ≡ record { left = few; spent = a.spent }) (f : few < a.left) (e : says q r ≡ settle b v) (n : r.verdict ≡ Undecided → ⊥) where
  less : b.left ≤ a.left
  less = omega (arith, ap (λ (x : Allowance). x.left) is)

  same : b.spent ≡ a.spent
  same = ap (λ (x : Allowance). x.spent) is

  paid : v.pieces ≤ b.left
  paid =
      ⊎_elim (λ (k : b.left < v.pieces). absurd (n (ap (λ (x : Said). x.verdict) (e ∙ settle-lt b v k)))) (λ k. k) (below_or b.left v.pieces)

  spent-is : r.allowance.spent ≡ a.spent + v.pieces
  spent-is =
      let k = ap (λ (x : Said). x.allowance) (e ∙ settle-le b v paid) ∙ said-allowance (after b v.pieces) v.survivor in
      omega (arith, ap (λ (x : Allowance). x.spent) k, same)

  pub resumed-fits : (a.spent ≤ r.allowance.spent) × (r.allowance.spent - a.spent ≤ a.left)
  resumed-fits = (omega (arith, spent-is), omega (arith, spent-is, paid, less))

  pub resumed-says : (o : Outcome (List ℕ)) → Resumed a r o → says q o ≡ settle a v
  resumed-says o t =
      let p : v.pieces ≤ a.left = omega (arith, paid, less) in
      let l : o.allowance.left ≡ a.left - v.pieces = omega (arith, t.left, spent-is) in
      let s : o.allowance.spent ≡ a.spent + v.pieces = omega (arith, t.spent, spent-is) in
      let x : o.allowance ≡ after a v.pieces = λ i. record { left = l i; spent = s i } in
      rw (settle-le a v p, x, t.verdict, t.piece)
      (ap (λ (d : Said). record { allowance = after a v.pieces; verdict = d.verdict; piece = d.piece }) (e ∙ settle-le b v paid) ∙ with-allowance
      (after a v.pieces) (after b v.pieces) v.survivor)

pub zeros : (n k : ℕ) → get_or {A = ℕ} (replicate n 0) k 0 ≡ 0
zeros zero k = refl
zeros (suc n) zero = refl
zeros (suc n) (suc k) = zeros n k
