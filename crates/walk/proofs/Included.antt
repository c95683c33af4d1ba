-- What the call on inclusion tells of two accepted records.
--   in-room, in_told    the room is too short; it is not
use Prim.Native.Nat.{ℕ, ◌≤◌, ◌<◌}
use native.Mathlib.Omega.{arith}
use mathlib.Core.Path.{◌≡◌, refl, sym, ap, ap₂, subst, ◌∙◌}
use mathlib.Core.List.{List}
use mathlib.Core.Bool.{true}
use Rattle.std.specs.Prelude.{Result}
use Rattle.visits.specs.declared.allowance.Allowance.{Allowance}
use Rattle.model.specs.Walk.{Found, walk_inclusion, walks_less, stop, decide}
use Rattle.model.specs.Algebra.{subtraction}
use Rattle.model.proofs.Setting.{good-subtraction}
use Rattle.model.proofs.Walking.{region-sized}
use Rattle.model.proofs.PaddedOperations.{less-padded}
use Rattle.model.proofs.Including.{less-in-turn}
use Rattle.answer.specs.Answer.{accepted, refused}
use Rattle.format.specs.Rows.{outcome}
use Rattle.format.specs.Bytes.{cube_len, header_len, unused}
use Rattle.format.specs.Records.{difference_at}
use Rattle.format.specs.Told.{silent, two_records, deciding, walking}
use Rattle.format.specs.Calls.{diff_in}
use Rattle.format.proofs.Reached.{reached}
use Rattle.format.proofs.Lending.{two-passed, two_lent}
use Rattle.format.proofs.Recording.{record_of, good-read}
use Rattle.region.specs.declared.difference.Difference.{Difference}
use Rattle.region.specs.Difference.{difference_of, DifferenceAt}
use Rattle.walk.specs.Ending.{Ended}
use Rattle.walk.specs.Tell.{told_of}
use Rattle.walk.specs.declared.stop.Stop.{Stop}
use Rattle.walk.proofs.Accepted.{record-whole, ends-told}

module _ (w : ℕ) (s t : List ℕ) (n room : ℕ) (lent : outcome (two_records w s t) ≡ accepted) where
  pub in-room : room < header_len w → silent (refused 22) ≡ diff_in w s t n room
  unfolding diff_in
  in-room h =
      let a = difference_at w s 0 in
      let b = difference_at w t 0 in
      let k = walking w n room (stop n (walks_less a b)) (walk_inclusion a b) in
      reached 0 k h ∙ two-passed w s t accepted (sym lent) k refl

  pub in_told : header_len w ≤ room → {d e : Difference} → DifferenceAt w s 0 d → DifferenceAt w t 0 e → (x : Result Allowance Stop)
      → Ended (cube_len w) (record { left = n; spent = 0 }) 0 (walks_less (difference_of d) (difference_of e)) x → told_of w x ≡ diff_in w s t n room
  unfolding diff_in
  in_told h i j x e =
      let both = two_lent w s t accepted (sym lent) refl in
      let l = record_of true w 0 s 0 both.0.sound in
      let m = record_of true w 0 t 0 both.1.sound in
      let a = difference_at w s 0 in
      let b = difference_at w t 0 in
      let k = walking w n room (stop n (walks_less a b)) (walk_inclusion a b) in
      let sized = region-sized w (subtraction a b) (good-subtraction w a b (good-read l) (good-read m)) in
      let whole = ap₂ walks_less (record-whole l i) (record-whole m j) ∙ less-padded w (unused w) a b (good-read l) (good-read m) in
      ends-told w (cube_len w) (unused w) n (walks_less a b) x (omega arith) (λ p y. sized p (ap (λ (v : Found). v.survivor) (sym (less-in-turn a b)) ∙ y))
      (subst (λ (vs : List Found). Ended (cube_len w) (record { left = n; spent = 0 }) 0 vs x) whole e)
      ∙ ap (λ (v : Found). deciding w (decide n (stop n (walks_less a b)) v)) (less-in-turn a b)
      ∙ reached 1 k (h, tt) ∙ two-passed w s t accepted (sym lent) k refl
