-- What is promised of membership, by `diff_member` and `region_member`. Beside the lines that the page has of every call:
--   diff_member-yes, diff_member-no        yes says that the header is in the difference, no that it is not
--   diff_member-index                      yes has the index 0, no that of no difference
--   region_member-yes, region_member-no    the same of the region of a file
--   region_member-index                    yes has the index of the first difference that the header is in, no that of no difference
use Prim.Native.Nat.{ℕ}
use native.Mathlib.Omega.{arith}
use mathlib.Core.Path.{◌≡◌, refl, ◌∙◌}
use mathlib.Core.List.{List, [], ◌∷◌}
use mathlib.Core.Bool.{Bool, true, false, cond}
use Rattle.model.specs.Difference.{in_difference, in_region, Holder, unheld, held, first_holder}
use Rattle.model.specs.Index.{FirstIn}
use Rattle.answer.specs.Answer.{no_difference}
use Rattle.format.specs.Rows.{last, outcome}
use Rattle.format.specs.Bytes.{read_header}
use Rattle.format.specs.Records.{width_of, difference_at}
use Rattle.format.specs.Files.{region_in}
use Rattle.format.specs.Told.{Told, lent_header, belonging}
use Rattle.format.specs.Calls.{diff_member, region_member}
use Rattle.format.specs.Meaning.{Lent}
use Rattle.format.proofs.Belonging
use Rattle.region.proofs.diff_member as diff_member-call
use Rattle.region.proofs.region_member as region_member-call
pub use Rattle.region.proofs.diff_member.Met.{met as diff_member-met}
pub use Rattle.region.proofs.region_member.Met.{met as region_member-met}
use Rattle.promises.specs.Outcome.{Promise, OneResult, Kept}
use Rattle.promises.specs.Accepted.{Tells, one_holds, Bits, Accepted}
use Rattle.promises.proofs.Agreeing.{same-result}
use Rattle.promises.proofs.Telling.{by-table, and_then, lent-tells, file-tells}
use Rattle.promises.proofs.Keeping.{kept}

-- the tests of a header pass exactly where its bytes are accepted
header-tells : (w : ℕ) (h : List ℕ) (y : Told) → Tells (Bits w w h) y (outcome (lent_header w h (last y)))
header-tells w h y = by-table 2 _ (omega arith) (λ passed. search) (λ b. search)

-- one difference holds the header or not
one_holds-tells : {P : Type 0} {x : Told} (b : Bool) → Tells P (belonging (cond b (held 0) unheld)) x → Tells P (one_holds b) x
one_holds-tells b a = record { accepted = a.accepted; told = λ o. a.told o ∙ either b }
  where
    either : (b : Bool) → belonging (cond b (held 0) unheld) ≡ one_holds b
    either true = refl
    either false = refl

belonging-kept : (x : Holder) → Kept 0 (belonging x)
belonging-kept unheld = omega arith
belonging-kept (held i) = omega arith

-- DIFF_MEMBER
pub diff_member-promise : Promise diff_member-call.Kinds.ps diff_member-call.Kinds.r diff_member-call.Reads.Asked diff_member-call.Reads.Learnt
    (λ κs (w, (s, (h, _))) x e. x ≡ (diff_member w s.now h.now).answer)
diff_member-promise = record { anything = λ κs a. tt; permits = λ κs a x e l. l }

module _ (w : ℕ) (s h : List ℕ) where
  pub diff_member-agrees : OneResult (diff_member w s h).answer
  diff_member-agrees = same-result _

  pub diff_member-answered : Tells (Lent w s × Bits w w h) (one_holds (in_difference (difference_at w s 0) (read_header w h))) (diff_member w s h)
  unfolding diff_member outcome
  diff_member-answered = one_holds-tells (in_difference (difference_at w s 0) (read_header w h)) (and_then (lent-tells w s _) (λ l. header-tells w h _))

  pub diff_member-kept : Kept 0 (diff_member w s h)
  unfolding diff_member
  diff_member-kept = kept 0 _ (omega arith) (λ some narrow sound long clear. belonging-kept (first_holder (difference_at w s 0 ∷ []) (read_header w h)))

  pub diff_member-yes : (diff_member w s h).answer.number ≡ 1 → in_difference (difference_at w s 0) (read_header w h) ≡ true
  diff_member-yes e = (Belonging.diff_member-yes w s h e).0

  pub diff_member-no : (diff_member w s h).answer.number ≡ 2 → in_difference (difference_at w s 0) (read_header w h) ≡ false
  diff_member-no e = (Belonging.diff_member-no w s h e).0

  pub diff_member-index : ((diff_member w s h).answer.number ≡ 1 → (diff_member w s h).answer.index ≡ 0)
      × ((diff_member w s h).answer.number ≡ 2 → (diff_member w s h).answer.index ≡ no_difference)
  diff_member-index = (λ e. (Belonging.diff_member-yes w s h e).1, λ e. (Belonging.diff_member-no w s h e).1)

-- REGION_MEMBER
pub region_member-promise : Promise region_member-call.Kinds.ps region_member-call.Kinds.r region_member-call.Reads.Asked region_member-call.Reads.Learnt
    (λ κs (s, (h, _)) x e. x ≡ (region_member s.now h.now).answer)
region_member-promise = record { anything = λ κs a. tt; permits = λ κs a x e l. l }

module _ (s h : List ℕ) where
  pub region_member-agrees : OneResult (region_member s h).answer
  region_member-agrees = same-result _

  pub region_member-answered :
      let w = width_of s in
      Tells (Accepted s × Bits w w h) (belonging (first_holder (region_in s) (read_header w h))) (region_member s h)
  unfolding region_member outcome
  region_member-answered = and_then (file-tells s 1 _) (λ l. header-tells (width_of s) h _)

  pub region_member-kept : Kept 0 (region_member s h)
  unfolding region_member
  region_member-kept = kept 0 _ (omega arith) (λ sound long clear. belonging-kept (first_holder (region_in s) (read_header (width_of s) h)))

  pub region_member-yes : (region_member s h).answer.number ≡ 1 → in_region (region_in s) (read_header (width_of s) h) ≡ true
  region_member-yes e = (Belonging.region_member-yes s h e).0

  pub region_member-no : (region_member s h).answer.number ≡ 2 → in_region (region_in s) (read_header (width_of s) h) ≡ false
  region_member-no e = (Belonging.region_member-no s h e).0

  pub region_member-index :
      ((region_member s h).answer.number ≡ 1 → FirstIn (region_in s) (read_header (width_of s) h) (region_member s h).answer.index)
      × ((region_member s h).answer.number ≡ 2 → (region_member s h).answer.index ≡ no_difference)
  region_member-index = (λ e. (Belonging.region_member-yes s h e).1, λ e. (Belonging.region_member-no s h e).1)
