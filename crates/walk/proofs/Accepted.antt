-- The walk over the bytes of an accepted record is the model's walk of its difference, and what its outcome tells.
--   record-whole                   a record's difference of whole bytes is the model's, with unused places behind each cube
--   record-walk, record-ceiling    the walk over the bytes, with the unused places behind each cube, and the ceiling
--   outcome-told         what is told of how a walk ended that began on a fresh allowance is the decision of the model's walk
--   ends-told            likewise of walks one after another
use Prim.Native.Nat.{ℕ, ◌*◌, ◌≤◌}
use native.Mathlib.Nat.{zero-add}
use mathlib.Core.Path.{◌≡◌, refl, ap, ◌∙◌}
use mathlib.Core.Bool.{Bool}
use mathlib.Core.List.{List, map}
use Rattle.std.specs.Prelude.{Option, Some, None, Result, Ok, Err, MatchResult}
use lib.ListN.{take, replicate}
use lib.Seq.{take-take, take_at}
use Rattle.model.specs.Cube.{free, Cube}
use Rattle.model.specs.Sized.{Sized}
use Rattle.model.specs.Walk.{nothing, piece, Found, in_turn, walk, stop, Decision, undecided, empty, member, decide}
use Rattle.model.specs.Padding.{pad_difference, pad_found}
use Rattle.model.proofs.Allowed.{decided-when, undecided-when, decide_by}
use Rattle.model.specs.Ceiling.{ceiling}
use Rattle.model.proofs.Padding.{sized-lengths}
use Rattle.model.proofs.PaddedCeiling.{ceiling-pad}
use Rattle.model.proofs.PaddedOperations.{walk-padded, turn-padded, stop-padded}
use Rattle.format.specs.Bytes.{codes, unused}
use Rattle.format.specs.Records.{difference_at}
use Rattle.format.specs.Told.{deciding}
use Rattle.format.proofs.Recording.{Record, good-read}
use Rattle.cube.specs.Whole.{cube_of}
use Rattle.region.specs.declared.difference.Difference.{Difference}
use Rattle.region.specs.Difference.{difference_of, DifferenceAt}
use Rattle.region.proofs.Fronts.{front-own, whole-record}
use Rattle.cube.proofs.Member.{codes-take}
use Rattle.visits.specs.Settle.{says, said_of, kept, settle, decision}
use Rattle.walk.specs.Ending.{ending, stopped, CoveredIs, Ended}
use Rattle.walk.specs.Tell.{told_stop, told_of}
use Rattle.visits.specs.declared.allowance.Verdict.{Verdict}
use Rattle.visits.specs.declared.allowance.Verdict.TheVariants.{Covered}
use Rattle.visits.specs.declared.allowance.Allowance.{Allowance}
use Rattle.visits.specs.declared.allowance.Outcome.{Outcome}
use Rattle.walk.specs.declared.stop.Stop.{Stop}
use Rattle.visits.proofs.Settle.{decision-settle}

module _ {alone : Bool} {w n : ℕ} {s : List ℕ} {at : ℕ} (r : Record alone w n s at) {d : Difference} (i : DifferenceAt w s at d) where
  pub record-whole : difference_of d ≡ pad_difference (unused w) (difference_at w s at)
  record-whole = i.model ∙ whole-record r (front-own s at)

  pub record-walk : walk (difference_of d) ≡ pad_found (unused w) (walk (difference_at w s at))
  record-walk = ap walk record-whole ∙ walk-padded w (unused w) (difference_at w s at) (good-read r)

  pub record-ceiling : ceiling (difference_of d) ≡ ceiling (difference_at w s at)
  record-ceiling =
      let d = difference_at w s at in
      let g = good-read r in
      ap ceiling record-whole ∙ ceiling-pad (unused w) w d.base g.base.wide d.cuts (sized-lengths w d.cuts g.cuts)

-- the first w positions of each cube
abbrev front : ℕ → Decision → Decision
front w (undecided n i) = undecided n i
front w (empty n) = empty n
front w (member n i p) = member n i (take w p)

ending-front : (w q n i : ℕ) (s : Option (List ℕ)) → w ≤ 4 * q → told_stop w n i s ≡ deciding w (front w (ending q n i s))
unfolding cube_of
ending-front w q n i None h = refl
ending-front w q n i (Some p) h = rw (codes-take q p, take-take w (4 * q) (codes p) h)

front-padded : (w u n i : ℕ) (v : Found) → ((p : Cube) → v.survivor ≡ piece p → Sized w p) → front w (decide n i (pad_found u v)) ≡ decide n i v
front-padded w u n i v l =
    decide_by (λ d. front w (decide n i (pad_found u v)) ≡ d) n i v
    (λ k. rw (undecided-when n i (pad_found u v) k))
    (λ k e. rw (decided-when n i (pad_found u v) k, e))
    (λ p k e. rw (decided-when n i (pad_found u v) k, e) (ap (member v.pieces i) (take_at p (replicate u free) w (l p e).wide)))

-- what is told of the end of walks that make the decision d
told-front : (w q : ℕ) (r : Result Allowance Stop) (d : Decision) → w ≤ 4 * q → MatchResult r (λ left. empty left.spent ≡ d) (λ x. stopped q x ≡ d)
    → told_of w r ≡ deciding w (front w d)
told-front w q (Ok left) d h e = ap (λ d. deciding w (front w d)) e
told-front w q (Err x) d h e = ending-front w q x.spent x.index x.survivor h ∙ ap (λ d. deciding w (front w d)) e

module _ (w q u n i : ℕ) (v : Found) (r : Result Allowance Stop) (h : w ≤ 4 * q) (l : (p : Cube) → v.survivor ≡ piece p → Sized w p) where
  abbrev fresh : Allowance
  fresh = record { left = n; spent = 0 }

  settled-told : MatchResult r (λ left. said_of left nothing ≡ settle fresh (pad_found u v)) (λ x. stopped q x ≡ decision i (settle fresh (pad_found u v)))
      → told_of w r ≡ deciding w (decide n i v)
  settled-told e =
      told-front w q r (decision i (settle fresh (pad_found u v))) h (by r e)
      ∙ ap (λ d. deciding w (front w d)) (decision-settle n i (pad_found u v)) ∙ ap (deciding w) (front-padded w u n i v l)
    where
      by : (r : Result Allowance Stop)
          → MatchResult r (λ left. said_of left nothing ≡ settle fresh (pad_found u v)) (λ x. stopped q x ≡ decision i (settle fresh (pad_found u v)))
          → MatchResult r (λ left. empty left.spent ≡ decision i (settle fresh (pad_found u v))) (λ x. stopped q x ≡ decision i (settle fresh (pad_found u v)))
      by (Ok left) e = ap (decision i) e
      by (Err x) e = e

  pub outcome-told : (o : Outcome (List ℕ)) → CoveredIs o i r → says q o ≡ settle fresh (pad_found u v) → told_of w r ≡ deciding w (decide n i v)
  outcome-told o c e = settled-told (by r c)
    where
      covered-said : (k : Verdict) (a left : Allowance) (p : Cube) → k ≡ Covered → left ≡ a
          → said_of left nothing ≡ record { allowance = a; verdict = k; piece = kept k p }
      covered-said k a left p c l = rw (c, l)

      by : (r : Result Allowance Stop) → CoveredIs o i r
          → MatchResult r (λ left. said_of left nothing ≡ settle fresh (pad_found u v)) (λ x. stopped q x ≡ decision i (settle fresh (pad_found u v)))
      by (Ok left) (c, l) = covered-said o.verdict o.allowance left (cube_of q o.piece) c l ∙ e
      by (Err x) (d, is) = is q ∙ ap (decision i) e

pub ends-told : (w q u n : ℕ) (vs : List Found) (r : Result Allowance Stop) → w ≤ 4 * q
    → ((p : Cube) → (in_turn (λ v. v) vs).survivor ≡ piece p → Sized w p)
    → Ended q (record { left = n; spent = 0 }) 0 (map (pad_found u) vs) r → told_of w r ≡ deciding w (decide n (stop n vs) (in_turn (λ v. v) vs))
ends-told w q u n vs r h l e = settled-told w q u n (stop n vs) (in_turn (λ v. v) vs) r h l (by r e)
  where
    all : settle (record { left = n; spent = 0 }) (in_turn (λ v. v) (map (pad_found u) vs)) ≡ settle (record { left = n; spent = 0 })
        (pad_found u (in_turn (λ v. v) vs))
    all = ap (settle (record { left = n; spent = 0 })) (turn-padded w u vs)

    by : (r : Result Allowance Stop) → Ended q (record { left = n; spent = 0 }) 0 (map (pad_found u) vs) r
        → MatchResult r (λ left. said_of left nothing ≡ settle (record { left = n; spent = 0 }) (pad_found u (in_turn (λ v. v) vs)))
        (λ x. stopped q x ≡ decision (stop n vs) (settle (record { left = n; spent = 0 }) (pad_found u (in_turn (λ v. v) vs))))
    by (Ok left) e = e ∙ all
    by (Err x) e =
        e ∙ ap (λ (i : ℕ). decision i (settle (record { left = n; spent = 0 }) (in_turn (λ v. v) (map (pad_found u) vs)))) (zero-add _ ∙ stop-padded w u n vs)
        ∙ ap (decision (stop n vs)) all
