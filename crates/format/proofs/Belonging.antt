-- The calls that answer yes or no of a header or of two cubes, and what each answer tells of the headers.
--   diff_member-yes, diff_member-no, region_member-yes, region_member-no    whether a header is in a difference, in a region, and the first
--                              difference that it is in
--   cube_in-yes, cube_in-no    the first cube is inside the second, or a header shows that it is not
--   wider-first, wider-second  the cube handed back holds the other
--   wider_number-yes, wider_number-no    one of the two cubes holds the other, or headers show that neither does
--   cube_meet-no               cubes that do not meet have no header in common
use Prim.Native.Nat.{ℕ, ◌<◌}
use native.Mathlib.Omega.{arith}
use mathlib.Core.Path.{◌≡◌, refl, sym, ap, ◌∙◌}
use mathlib.Core.List.{List, [], ◌∷◌}
use mathlib.Core.Logic.{◌⊎◌, inl, inr}
use mathlib.Core.Bool.{Bool, true, false, cond, not, ◌&&◌, ◌||◌}
use borrow.Author.Tests.{not-true}
use Rattle.model.specs.Cube.{Header, holds, meet, shares, within}
use Rattle.model.specs.Difference.{in_difference, in_region, Holder, unheld, held, first_holder, is_held}
use Rattle.model.specs.Index.{FirstIn}
use Rattle.model.proofs.Bools.{or-none}
use Rattle.model.proofs.Holding.{held_in, held_first}
use Rattle.model.proofs.Cubes.{apart_none, within_in, within-out}
use Rattle.answer.specs.Answer.{no_difference, no}
use Rattle.format.specs.Rows.{last, row, so, outcome}
use Rattle.format.specs.Bytes.{read_header, read_cube, write_cube, lent_fault}
use Rattle.format.specs.Records.{width_of, difference_at}
use Rattle.format.specs.Files.{region_in}
use Rattle.format.specs.Told.{Told, silent, wide, lent_cube, lent_record, lent_file, lent_header, yes_or, belonging, writing}
use Rattle.format.specs.Calls.{cube_meet, cube_in, first, second, neither, wider, wider_number, diff_member, region_member}
use Rattle.format.specs.Meaning.{Inside, Outside}
use Rattle.format.proofs.Reached.{each, past}
use Rattle.format.proofs.Coding.{fault-solid, lent-cube}
use Rattle.format.proofs.Refusals.{lent-refusal, record-refusal, file-refusal}

-- a table that ends in a test of b
module _ (b : Bool) (x : Told) (e : x.answer.number < 10 → x ≡ outcome (yes_or b)) where
  yes_true : x.answer.number ≡ 1 → b ≡ true
  yes_true n =
      each (λ y. y.answer.number ≡ 1 → b ≡ true) (yes_or b) (λ t z. t, λ f z. absurd (omega arith)) (rw (e (omega arith)) at n)

  no_false : x.answer.number ≡ 2 → b ≡ false
  no_false n =
      each (λ y. y.answer.number ≡ 2 → b ≡ false) (yes_or b) (λ t z. absurd (omega arith), λ f z. f) (rw (e (omega arith)) at n)

-- a table that ends in the first holder
module _ (k : Holder) (x : Told) (e : x.answer.number < 10 → x ≡ belonging k) where
  held-yes : x.answer.number ≡ 1 → k ≡ held x.answer.index
  held-yes n = go k (e (omega arith))
    where
      go : (k : Holder) → x ≡ belonging k → k ≡ held x.answer.index
      go unheld f = absurd (omega (arith, ap (λ (y : Told). y.answer.number) f))
      go (held i) f = ap held (sym (ap (λ (y : Told). y.answer.index) f))

  held-no : x.answer.number ≡ 2 → (k ≡ unheld) × (x.answer.index ≡ no_difference)
  held-no n = go k (e (omega arith))
    where
      go : (k : Holder) → x ≡ belonging k → (k ≡ unheld) × (x.answer.index ≡ no_difference)
      go unheld f = (refl, ap (λ (y : Told). y.answer.index) f)
      go (held i) f = absurd (omega (arith, ap (λ (y : Told). y.answer.number) f))

-- a header
module _ (w : ℕ) (s h : List ℕ) where
  abbrev one-holder : Holder
  one-holder = first_holder (difference_at w s 0 ∷ []) (read_header w h)

  diff_member-test : (diff_member w s h).answer.number < 10 → diff_member w s h ≡ belonging one-holder
  unfolding diff_member
  diff_member-test l =
      let k = wide w (lent_record w s 1 (lent_header w h (last (belonging one-holder)))) in
      (past (λ x. x.answer.number < 10) k (omega (arith, record-refusal w s true 0 0)) l).1.1.1.1.1

  pub diff_member-yes : (diff_member w s h).answer.number ≡ 1
      → (in_difference (difference_at w s 0) (read_header w h) ≡ true) × ((diff_member w s h).answer.index ≡ 0)
  diff_member-yes n = go (in_difference (difference_at w s 0) (read_header w h)) (held-yes one-holder _ diff_member-test n)
    where
      go : (b : Bool) → cond b (held 0) unheld ≡ held (diff_member w s h).answer.index → (b ≡ true) × ((diff_member w s h).answer.index ≡ 0)
      go true f = (refl, cc)
      go false f = let z : ◌≡◌ {A = ℕ} 0 1 = cc in absurd (omega arith)

  pub diff_member-no : (diff_member w s h).answer.number ≡ 2
      → (in_difference (difference_at w s 0) (read_header w h) ≡ false) × ((diff_member w s h).answer.index ≡ no_difference)
  diff_member-no n =
      let (none, index) = held-no one-holder _ diff_member-test n in
      (go (in_difference (difference_at w s 0) (read_header w h)) none, index)
    where
      go : (b : Bool) → cond b (held 0) unheld ≡ unheld → b ≡ false
      go true f = let z : ◌≡◌ {A = ℕ} 0 1 = cc in absurd (omega arith)
      go false f = refl

module _ (s h : List ℕ) where
  abbrev holder : Holder
  holder = first_holder (region_in s) (read_header (width_of s) h)

  region_member-test : (region_member s h).answer.number < 10 → region_member s h ≡ belonging holder
  unfolding region_member
  region_member-test l =
      let k = lent_file s 1 (lent_header (width_of s) h (last (belonging holder))) in
      (past (λ x. x.answer.number < 10) k (omega (arith, file-refusal s)) l).1.1.1

  pub region_member-yes : (region_member s h).answer.number ≡ 1
      → (in_region (region_in s) (read_header (width_of s) h) ≡ true)
      × FirstIn (region_in s) (read_header (width_of s) h) (region_member s h).answer.index
  region_member-yes n =
      let f = held-yes holder _ region_member-test n in
      (sym (held_in (region_in s) (read_header (width_of s) h)) ∙ ap is_held f, held_first (region_in s) (read_header (width_of s) h) _ f)

  pub region_member-no : (region_member s h).answer.number ≡ 2
      → (in_region (region_in s) (read_header (width_of s) h) ≡ false) × ((region_member s h).answer.index ≡ no_difference)
  region_member-no n =
      let (none, index) = held-no holder _ region_member-test n in
      (sym (held_in (region_in s) (read_header (width_of s) h)) ∙ ap is_held none, index)

-- two cubes
module _ (w : ℕ) (a b : List ℕ) where
  -- where no test refuses, both cubes are accepted
  cubes-past : (x : Told) → let y = outcome (wide w (lent_cube w a 1 (lent_cube w b 2 (last x)))) in
      y.answer.number < 10 → (lent_fault w a ≡ 0) × (lent_fault w b ≡ 0) × (y ≡ x)
  cubes-past x l =
      let p = past (λ y. y.answer.number < 10) (wide w (lent_cube w a 1 (lent_cube w b 2 (last x)))) (omega (arith, lent-refusal w a, lent-refusal w b)) l in
      (p.1.1.0, p.1.1.1.0, p.1.1.1.1)

  cube_in-test : (cube_in w a b).answer.number < 10
      → (lent_fault w a ≡ 0) × (lent_fault w b ≡ 0) × (cube_in w a b ≡ outcome (yes_or (within (read_cube w a) (read_cube w b))))
  unfolding cube_in outcome
  cube_in-test = cubes-past (outcome (yes_or (within (read_cube w a) (read_cube w b))))

  pub cube_in-yes : (cube_in w a b).answer.number ≡ 1 → Inside w a b
  cube_in-yes n h = within_in (read_cube w a) (read_cube w b) h (yes_true _ _ (λ l. (cube_in-test l).2) n)

  pub cube_in-no : (cube_in w a b).answer.number ≡ 2 → Outside w a b
  cube_in-no n =
      let f = fault-solid w a (lent-cube w a (cube_in-test (omega arith)).0) in
      within-out (read_cube w a) (read_cube w b) f (no_false _ _ (λ l. (cube_in-test l).2) n)

  wider-which : (wider w a b ≡ first → within (read_cube w b) (read_cube w a) ≡ true) × (wider w a b ≡ second → within (read_cube w a) (read_cube w b) ≡ true)
  unfolding wider
  wider-which =
      let none : (neither ≡ first → within (read_cube w b) (read_cube w a) ≡ true) × (neither ≡ second → within (read_cube w a) (read_cube w b) ≡ true)
      = (λ z. cc, λ z. cc) in
      each (λ y. (y ≡ first → within (read_cube w b) (read_cube w a) ≡ true) × (y ≡ second → within (read_cube w a) (read_cube w b) ≡ true)) _
      (λ h. none, λ h. (λ h. none, λ h. (λ h. none, λ h. (λ h. none, λ h. (λ t. (λ z. t, λ z. cc), λ h. (λ t. (λ z. cc, λ z. t), λ h. none))))))

  pub wider-first : wider w a b ≡ first → Inside w b a
  wider-first e h = within_in (read_cube w b) (read_cube w a) h (wider-which.0 e)

  pub wider-second : wider w a b ≡ second → Inside w a b
  wider-second e h = within_in (read_cube w a) (read_cube w b) h (wider-which.1 e)

  wider_number-test : (wider_number w a b).answer.number < 10
      → (lent_fault w a ≡ 0) × (lent_fault w b ≡ 0)
      × (wider_number w a b ≡ outcome (yes_or (within (read_cube w b) (read_cube w a) || within (read_cube w a) (read_cube w b))))
  unfolding wider_number outcome
  wider_number-test = cubes-past (outcome (yes_or (within (read_cube w b) (read_cube w a) || within (read_cube w a) (read_cube w b))))

  pub wider_number-yes : (wider_number w a b).answer.number ≡ 1 → Inside w b a ⊎ Inside w a b
  wider_number-yes n = go (within (read_cube w b) (read_cube w a)) refl (yes_true _ _ (λ l. (wider_number-test l).2) n)
    where
      go : (t : Bool) → within (read_cube w b) (read_cube w a) ≡ t → t || within (read_cube w a) (read_cube w b) ≡ true → Inside w b a ⊎ Inside w a b
      go true e f = inl (λ h. within_in (read_cube w b) (read_cube w a) h e)
      go false e f = inr (λ h. within_in (read_cube w a) (read_cube w b) h f)

  pub wider_number-no : (wider_number w a b).answer.number ≡ 2 → Outside w b a × Outside w a b
  wider_number-no n =
      let t = wider_number-test (omega arith) in
      let none = or-none _ _ (no_false _ _ (λ l. (wider_number-test l).2) n) in (
        within-out (read_cube w b) (read_cube w a) (fault-solid w b (lent-cube w b t.1)) none.0,
        within-out (read_cube w a) (read_cube w b) (fault-solid w a (lent-cube w a t.0)) none.1,
      )

  pub cube_meet-no : (room : ℕ) → (cube_meet w a b room).answer.number ≡ 2 → (h : Header) → holds (read_cube w a) h && holds (read_cube w b) h ≡ false
  unfolding cube_meet outcome
  cube_meet-no room n h =
      let c = read_cube w a in
      let d = read_cube w b in
      let k = row (so (not (shares c d))) (silent no) (writing (write_cube (meet c d)) room) in
      let z = (cubes-past (outcome k) (omega arith)).2 in
      let t = each (λ y. y.answer.number ≡ 2 → not (shares c d) ≡ true) k
      (λ f z. f, λ f. (λ g z. absurd (omega arith), λ g z. absurd (omega arith))) (rw z at n) in
      apart_none c d h (not-true (shares c d) t)
