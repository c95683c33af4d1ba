-- What the calls on emptiness tell, test by test.
--   diff-room, diff-told             the call `diff_empty` of an accepted record: the room is too short; it is not
--   region-room, region-told         the call `region_empty` of an accepted file
--   FileLeft s a have at i n         == what is left to walk of an accepted file with n differences, on what is left of the allowance a: i are covered
--   file-begun, file-turn, file-stop, file-ended    the walk of an accepted file, difference by difference
--   file-inside                      where differences are left, there are bytes left
use Prim.Native.Nat.{ℕ, ◌+◌, ◌^◌, ◌≤◌, ◌<◌}
use native.Mathlib.Omega.{arith}
use mathlib.Core.Path.{◌≡◌, refl, sym, ap, subst, ◌∙◌}
use mathlib.Core.List.{List, [], ◌∷◌, map}
use mathlib.Core.Logic.{⊎_elim}
use mathlib.Core.Bool.{true}
use Rattle.std.specs.Prelude.{Result, Ok, Err}
use Rattle.std.proofs.lemmas.Bool.{cases_lt}
use lib.ListN.{length, length-map}
use Rattle.model.specs.Difference.{Region}
use Rattle.model.specs.Walk.{Found, walk, walk_region, stop, decide}
use Rattle.model.specs.Padding.{pad_found}
use Rattle.model.proofs.Walking.{walk-sized, region-sized}
use Rattle.model.proofs.Stopping.{region-in-turn}
use Rattle.answer.specs.Answer.{accepted, refused}
use Rattle.format.specs.Rows.{outcome}
use Rattle.format.specs.Limits.{most_differences}
use Rattle.format.specs.Bytes.{cube_len, header_len, unused}
use Rattle.format.specs.Records.{width_of, first_at, difference_at}
use Rattle.format.specs.Files.{read_file, fault_number, offsets, region_in}
use Rattle.format.specs.Told.{silent, one_record, deciding, walking}
use Rattle.format.specs.Calls.{diff_empty, region_empty}
use Rattle.format.proofs.Reached.{reached}
use Rattle.format.proofs.Lending.{one-passed, one_lent, file-passed}
use Rattle.format.proofs.Recording.{record_of, good-read}
use Rattle.format.proofs.Filing.{file-of, file-good, file-count}
use Rattle.region.specs.declared.difference.Difference.{Difference}
use Rattle.region.specs.Front.{front_at}
use Rattle.region.specs.Difference.{difference_of, DifferenceAt}
use Rattle.region.specs.Ahead.{region_ahead}
use Rattle.region.specs.Reader.{AcceptedIs}
use Rattle.region.specs.declared.files.File as result
use Rattle.region.proofs.Onward.{AllAccepted, file-read, file-region, region-end, region-next, onward-file, onward-record, onward-next}
use Rattle.visits.specs.Settle.{settle, says}
use Rattle.walk.specs.Tell.{told_of}
use Rattle.walk.specs.declared.stop.Stop.{Stop}
use Rattle.walk.specs.Ending.{CoveredIs, Ended, whole_walks}
use Rattle.visits.specs.declared.allowance.Allowance.{Allowance}
use Rattle.visits.specs.declared.allowance.Outcome.{Outcome}
use Rattle.visits.proofs.Settle.{settle-keeps}
use Rattle.walk.proofs.Ended.{ended-none, ended-here, ended-turn}
use Rattle.walk.proofs.Accepted.{record-walk, outcome-told, ends-told}

module _ (w : ℕ) (s : List ℕ) (n room : ℕ) (lent : outcome (one_record w s) ≡ accepted) where
  pub diff-room : room < header_len w → silent (refused 22) ≡ diff_empty w s n room
  unfolding diff_empty
  diff-room h =
      let k = walking w n room 0 (walk (difference_at w s 0)) in
      reached 0 k h ∙ one-passed w s accepted (sym lent) silent k refl

  pub diff-told : header_len w ≤ room → {d : Difference} → DifferenceAt w s 0 d → (o : Outcome (List ℕ)) (x : Result Allowance Stop) → CoveredIs o 0 x
      → says (cube_len w) o ≡ settle (record { left = n; spent = 0 }) (walk (difference_of d)) → told_of w x ≡ diff_empty w s n room
  unfolding diff_empty
  diff-told h i o x c e =
      let a = record_of true w 0 s 0 (one_lent w s accepted (sym lent) refl).sound in
      let d = difference_at w s 0 in
      let k = walking w n room 0 (walk d) in
      outcome-told w (cube_len w) (unused w) n 0 (walk d) x (omega arith) (walk-sized w d (good-read a)) o c
      (e ∙ ap (settle (record { left = n; spent = 0 })) (record-walk a i))
      ∙ reached 1 k (h, tt) ∙ one-passed w s accepted (sym lent) silent k refl

module _ (s : List ℕ) (n room : ℕ) (clean : fault_number (read_file s) ≡ 0) where
  pub region-room : room < header_len (width_of s) → silent (refused 22) ≡ region_empty s n room
  unfolding region_empty
  region-room h =
      let k = walking (width_of s) n room (stop n (map walk (region_in s))) (walk_region (region_in s)) in
      reached 0 k h ∙ file-passed s 1 k clean

  pub region-told : header_len (width_of s) ≤ room → (x : Result Allowance Stop)
      → Ended (cube_len (width_of s)) (record { left = n; spent = 0 }) 0 (whole_walks (width_of s) (region_in s)) x
      → told_of (width_of s) x ≡ region_empty s n room
  unfolding region_empty
  region-told h x e =
      let w = width_of s in
      let r = region_in s in
      let k = walking w n room (stop n (map walk r)) (walk_region r) in
      let sized = region-sized w r (file-good (file-of s clean)) in
      ends-told w (cube_len w) (unused w) n (map walk r) x (omega arith) (λ p z. sized p (ap (λ (v : Found). v.survivor) (sym (region-in-turn r)) ∙ z)) e
      ∙ ap (λ (v : Found). deciding w (decide n (stop n (map walk r)) v)) (region-in-turn r)
      ∙ reached 1 k (h, tt) ∙ file-passed s 1 k clean

-- what is left to walk from an offset on
pub record FileLeft (s : List ℕ) (a have : Allowance) (at i n : ℕ) : Type 0 where
  pub sum : have.left + have.spent < 2 ^ 32
  pub onward : AllAccepted (width_of s) s at
  pub all : i + length (region_ahead (width_of s) s at) ≡ n
  pub few : n ≤ most_differences
  pub ends : (x : Result Allowance Stop) → Ended (cube_len (width_of s)) have i (whole_walks (width_of s) (region_ahead (width_of s) s at)) x
      → Ended (cube_len (width_of s)) a 0 (whole_walks (width_of s) (region_in s)) x

pub file-begun : {s : List ℕ} {a : Allowance} {r : result.File} → AcceptedIs s r → a.left + a.spent < 2 ^ 32 → FileLeft s a a (first_at s) 0 r.count
file-begun {s} {a} {r} i l =
    let f = file-read i in
    let e : r.count ≡ length (region_in s) = i.count ∙ sym (length-map (offsets (read_file s)) (difference_at (width_of s) s)) in
    record {
      sum = l;
      onward = onward-file f;
      all = omega (arith, e, ap length (file-region f));
      few = omega (arith, e, file-count f);
      ends = λ x z. subst (λ (r : Region). Ended (cube_len (width_of s)) a 0 (whole_walks (width_of s) r) x) (sym (file-region f)) z;
    }

module _ {s : List ℕ} {a have : Allowance} {at i n : ℕ} (x : FileLeft s a have at i n) where
  -- nothing is left
  pub file-ended : n ≤ i → Ended (cube_len (width_of s)) a 0 (whole_walks (width_of s) (region_in s)) (Ok have)
  file-ended h =
      let w = width_of s in
      let none = empty (region_ahead w s at) (omega (arith, x.all)) in
      x.ends (Ok have) (subst (λ (r : Region). Ended (cube_len w) have i (whole_walks w r) (Ok have)) (sym none) (ended-none (cube_len w) have i))
    where
      empty : (r : Region) → length r ≡ 0 → r ≡ []
      empty [] e = refl
      empty (d ∷ r) e = absurd (omega arith)

  pub file-inside : i < n → at < length s
  file-inside h = ⊎_elim (λ (l : at < length s). l) (λ (l : length s ≤ at). absurd
      (omega (arith, x.all, ap length (region-end (width_of s) s at l)))) (cases_lt at (length s))

  module _ (h : i < n) {d : Difference} (j : DifferenceAt (width_of s) s at d) (o : Outcome (List ℕ))
      (e : says (length d.base.now) o ≡ settle have (walk (difference_of d))) where
    abbrev w : ℕ
    w = width_of s

    abbrev here : Found
    here = pad_found (unused w) (walk (difference_at w s at))

    abbrev later : List Found
    later = whole_walks w (region_ahead w s (front_at s at).next)

    said : says (cube_len w) o ≡ settle have here
    said = ap (λ (q : ℕ). says q o) (sym j.size) ∙ e ∙ ap (settle have) (record-walk (onward-record x.onward (file-inside h)) j)

    next-region : region_ahead w s at ≡ difference_at w s at ∷ region_ahead w s (front_at s at).next
    next-region = region-next w s at (file-inside h)

    ends_so : (y : Result Allowance Stop) → Ended (cube_len w) have i (here ∷ later) y → Ended (cube_len w) a 0 (whole_walks w (region_in s)) y
    ends_so y z = x.ends y (subst (λ (r : Region). Ended (cube_len w) have i (whole_walks w r) y) (sym next-region) z)

    -- the difference here is covered: the others go on with what it left
    pub file-turn : (left : Allowance) → CoveredIs o i (Ok left) → FileLeft s a left (front_at s at).next (i + 1) n
    file-turn left c =
        record {
          sum = rw c.1 (omega (arith, x.sum, settle-keeps have _ (says (cube_len w) o) said));
          onward = onward-next x.onward (file-inside h);
          all = omega (arith, x.all, ap length next-region);
          few = x.few;
          ends = λ y z. ends_so y (ended-turn (cube_len w) have i here later o said left c y z);
        }

    -- it is not: that is the answer
    pub file-stop : (y : Stop) → CoveredIs o i (Err y) → Ended (cube_len w) a 0 (whole_walks w (region_in s)) (Err y)
    file-stop y c = ends_so (Err y) (ended-here (cube_len w) have i here later o said y c)
