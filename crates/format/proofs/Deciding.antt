-- The calls that walk: emptiness of a difference and of a region, inclusion, and the ceiling.
--   empty-asks, region-asks, in-asks    emptiness of a difference and of a region look for a header in it, inclusion for one in the first and
--                            outside the second, each by its walk
--   ceiling-answers, empty-at-most-ceiling, ceiling-suffices    the ceiling is answered, no count is above it, and an allowance of it is enough
use Prim.Native.Nat.{ℕ, ◌≤◌, ◌<◌}
use native.Mathlib.Omega.{arith}
use mathlib.Core.Path.{◌≡◌, sym, ap, ◌∙◌}
use mathlib.Core.List.{List, map}
use mathlib.Core.Bool.{true, not, ◌&&◌}
use Rattle.model.specs.Difference.{Difference, Region, in_difference, in_region}
use Rattle.model.specs.Sized.{All, Good}
use Rattle.model.specs.Algebra.{subtraction}
use Rattle.model.specs.Walk.{walk, walk_region, walk_inclusion, walks_less, stop, decide}
use Rattle.model.specs.Ceiling.{ceiling, most_pieces, capped}
use Rattle.model.proofs.Walking.{survivor-in, nothing-in, walk-sized, region-survivor-in, region-nothing-in, region-sized}
use Rattle.model.proofs.Setting.{in-subtraction, good-subtraction}
use Rattle.model.proofs.Bound.{pieces-at-most-ceiling, capped_same}
use Rattle.model.proofs.Allowed.{count-at-most-ceiling}
use Rattle.answer.specs.Answer.{counted}
use Rattle.format.specs.Rows.{last}
use Rattle.format.specs.Bytes.{header_len}
use Rattle.format.specs.Records.{width_of, difference_at}
use Rattle.format.specs.Files.{fault_number, read_file, region_in}
use Rattle.format.specs.Told.{Told, silent, wide, lent_record, lent_file, walking}
use Rattle.format.specs.Calls.{diff_empty, region_empty, diff_in, ceiling_of}
use Rattle.format.specs.Meaning.{Lent}
use Rattle.format.proofs.Reached.{reached, each, past}
use Rattle.format.proofs.Recording.{record_of, good-read}
use Rattle.format.proofs.Filing.{file-of, file-good}
use Rattle.format.proofs.Refusals.{record-refusal, file-refusal}
use Rattle.format.proofs.Asking.{Looks, Asks, count-told, asks-undecided}

-- what the walks look for
difference-looks : (w : ℕ) (d : Difference) → Good w d → Looks w (in_difference d) (walk d)
difference-looks w d g = record { none = nothing-in d.cuts d.base; sized = walk-sized w d g; some = survivor-in d.cuts d.base }

region-looks : (w : ℕ) (r : Region) → All (Good w) r → Looks w (in_region r) (walk_region r)
region-looks w r g = record { none = region-nothing-in r; sized = region-sized w r g; some = region-survivor-in r }

inclusion-looks : (w : ℕ) (a b : Difference) → Good w a → Good w b → Looks w (λ h. in_difference a h && not (in_difference b h)) (walk_inclusion a b)
inclusion-looks w a b f g =
    let l = region-looks w (subtraction a b) (good-subtraction w a b f g) in
    record {
      none = λ e h. sym (in-subtraction a b h) ∙ l.none e h;
      sized = l.sized;
      some = λ q e h i. sym (in-subtraction a b h) ∙ l.some q e h i;
    }

-- a record lent beside W
lent-good : {w : ℕ} {s : List ℕ} → Lent w s → Good w (difference_at w s 0)
lent-good {w} {s} l = good-read (record_of true w 0 s 0 l.sound)

-- a difference
module _ (w : ℕ) (s : List ℕ) (n room : ℕ) where
  pub empty-asks : Asks w n 0 (in_difference (difference_at w s 0)) (walk (difference_at w s 0)) (Lent w s × (header_len w ≤ room)) (diff_empty w s n room)
  unfolding diff_empty
  empty-asks =
      let k = wide w (lent_record w s 1 (walking w n room 0 (walk (difference_at w s 0)))) in
      record {
        accepted = λ l. let p = past (λ x. x.answer.number < 10) k (omega (arith, record-refusal w s true 0 0)) l in omega arith;
        told = λ l. sym (reached 4 k (omega arith));
        looks = λ l. difference-looks w (difference_at w s 0) (lent-good l.0);
      }

-- the ceiling of a difference
module _ (w : ℕ) (s : List ℕ) where
  pub ceiling-answers : Lent w s → ceiling_of w s ≡ silent (counted 0 (capped (ceiling (difference_at w s 0))))
  unfolding ceiling_of
  ceiling-answers l =
      let c = counted 0 (capped (ceiling (difference_at w s 0))) in
      sym (reached 3 (wide w (lent_record w s 1 (last (silent c)))) (omega arith))

  pub empty-at-most-ceiling : (n room : ℕ) → n ≤ most_pieces → (diff_empty w s n room).answer.count ≤ (ceiling_of w s).answer.count
  unfolding diff_empty
  empty-at-most-ceiling n room h =
      let d = difference_at w s 0 in
      let k = wide w (lent_record w s 1 (walking w n room 0 (walk d))) in
      each (λ x. x.answer.count ≤ (ceiling_of w s).answer.count) k (
        λ e. omega arith,
        λ some. (
          λ e. omega arith,
          λ narrow. (
            λ e. omega arith,
            λ sound. (
              λ e. omega arith,
              λ fits.
                  let c = ceiling-answers (record { some = omega arith; narrow = narrow; sound = sound }) in
                  rw (c, count-told w (decide n 0 (walk d))) (count-at-most-ceiling d n 0 h),
            ),
          ),
        ),
      )

  pub ceiling-suffices : (room : ℕ) → ceiling (difference_at w s 0) ≤ most_pieces → (diff_empty w s (ceiling_of w s).answer.count room).answer.number ≡ 3 → ⊥
  ceiling-suffices room h e =
      let d = difference_at w s 0 in
      let u = asks-undecided (empty-asks w s (ceiling_of w s).answer.count room) e in
      let c : (ceiling_of w s).answer.count ≡ ceiling d = ap (λ (x : Told). x.answer.count) (ceiling-answers u.0.0) ∙ capped_same (ceiling d) h in
      omega (arith, pieces-at-most-ceiling d)

-- a region
module _ (s : List ℕ) (n room : ℕ) where
  pub region-asks :
      let w = width_of s in
      let r = region_in s in
      Asks w n (stop n (map walk r)) (in_region r) (walk_region r) ((fault_number (read_file s) ≡ 0) × (header_len w ≤ room)) (region_empty s n room)
  unfolding region_empty
  region-asks =
      let k = lent_file s 1 (walking (width_of s) n room (stop n (map walk (region_in s))) (walk_region (region_in s))) in
      record {
        accepted = λ l. let p = past (λ x. x.answer.number < 10) k (omega (arith, file-refusal s)) l in (p.0, p.1.0);
        told = λ l. sym (reached 2 k (l.0, (l.1, tt)));
        looks = λ l. region-looks (width_of s) (region_in s) (file-good (file-of s l.0));
      }

-- inclusion of two differences
module _ (w : ℕ) (s t : List ℕ) (n room : ℕ) where
  pub in-asks :
      let a = difference_at w s 0 in
      let b = difference_at w t 0 in
      Asks w n (stop n (walks_less a b)) (λ h. in_difference a h && not (in_difference b h)) (walk_inclusion a b)
      ((Lent w s × Lent w t) × (header_len w ≤ room)) (diff_in w s t n room)
  unfolding diff_in
  in-asks =
      let a = difference_at w s 0 in
      let b = difference_at w t 0 in
      let k = wide w (lent_record w s 1 (lent_record w t 2 (walking w n room (stop n (walks_less a b)) (walk_inclusion a b)))) in
      record {
        accepted = λ l. let p = past (λ x. x.answer.number < 10) k (omega (arith, record-refusal w s true 0 0, record-refusal w t true 0 0)) l in omega arith;
        told = λ l. sym (reached 5 k (omega arith));
        looks = λ l. inclusion-looks w a b (lent-good l.0.0) (lent-good l.0.1);
      }
