-- The outcome of each call on two lent cubes, from what the calls on their bytes say.
--   wrote_bytes n bs       == n bytes are written, and they are bs
--   in-refused, number-refused, meet-refused, wider-refused    where the width or a cube is refused, each call says so
--   one_size              accepted cubes have as many bytes
--   in-yes, in-no         whether the first lies in the second
--   number-first, number-second, number-neither    the number: the first is the wider, the second, or neither
--   wider-first, wider-second, wider-neither       what is handed back then
--   meet-apart, meet-short, meet-written    the cubes do not meet; there is no room for the meet; it is written
--   is-first, is-second, is-neither         the reference handed back is the wider one, or an empty part of a
use Rattle.std.specs.Prelude.{Ok, Err}
use mathlib.Core.Path.{◌≡◌, refl, sym, ap, ap₂, ◌∙◌}
use mathlib.Core.List.{List, []}
use mathlib.Core.Bool.{true, false, not, ◌||◌, or-true}
use Prim.Native.Nat.{ℕ, ◌≤◌, ◌<◌}
use native.Mathlib.Omega.{arith}
use lib.ListN.{length}
use denote.Ref.{Bor}
use Rattle.model.specs.Cube.{meet, shares, within}
use Rattle.answer.specs.declared.Answer.{Answer}
use Rattle.answer.specs.Answer.{accepted, yes, no, refused, wrote}
use Rattle.answer.specs.Refusals.{Tested}
use Rattle.format.specs.Rows.{Rows, last, row, so, outcome}
use Rattle.format.specs.Bytes.{Bytes, codes, read_cube, write_cube}
use Rattle.format.specs.Told.{Told, silent, two_cubes, yes_or, writing}
use Rattle.format.specs.Calls.{cube_meet, cube_in, Which, first, second, neither, wider, wider_number}
use Rattle.format.proofs.Reached.{reached}
use Rattle.format.proofs.Lending.{pair-refused, pair-passed, pair-lent}
use Rattle.cube.specs.Pair.{lies_in, and_bytes}
use Rattle.cube.specs.Call.{WiderIs}
use Rattle.cube.proofs.Codes.{length-and}
use Rattle.cube.proofs.Reading.{lent-clean, read-shares, read-lies, read-meet}

abbrev pub wrote_bytes : ℕ → List ℕ → Told
wrote_bytes n bs = record { answer = wrote n; bytes = bs }

module _ (w : ℕ) (a b : List ℕ) where
  abbrev in_rows : Rows Told
  in_rows = yes_or (within (read_cube w a) (read_cube w b))

  abbrev either_rows : Rows Told
  either_rows = yes_or (within (read_cube w b) (read_cube w a) || within (read_cube w a) (read_cube w b))

  abbrev meet_rows : ℕ → Rows Told
  meet_rows room =
      row (so (not (shares (read_cube w a) (read_cube w b)))) (silent no)
      (writing (write_cube (meet (read_cube w a) (read_cube w b))) room)

  abbrev wider_rows : Rows Which
  wider_rows =
      row (so (within (read_cube w b) (read_cube w a))) first
      (row (so (within (read_cube w a) (read_cube w b))) second
      (last neither))

  -- refused, with r
  module _ (r : Answer) (t : Tested (outcome (two_cubes w a b)) (Err r)) where
    pub in-refused : silent r ≡ cube_in w a b
    unfolding cube_in
    in-refused = pair-refused w a b r t.0 silent in_rows t.1

    pub number-refused : silent r ≡ wider_number w a b
    unfolding wider_number
    number-refused = pair-refused w a b r t.0 silent either_rows t.1

    pub meet-refused : (room : ℕ) → silent r ≡ cube_meet w a b room
    unfolding cube_meet
    meet-refused room = pair-refused w a b r t.0 silent (meet_rows room) t.1

    pub wider-refused : neither ≡ wider w a b
    unfolding wider
    wider-refused = pair-refused w a b r t.0 (λ _. neither) wider_rows t.1

  -- accepted
  module _ (t : Tested (outcome (two_cubes w a b)) (Ok tt)) where
    pub one_size : length a ≡ length b
    one_size =
        let p = pair-lent w a b accepted (sym t) refl in
        (lent-clean w a p.0).0 ∙ sym (lent-clean w b p.1).0

    lies : lies_in a b ≡ within (read_cube w a) (read_cube w b)
    lies =
        let p = pair-lent w a b accepted (sym t) refl in
        let k = lent-clean w a p.0 in
        let m = lent-clean w b p.1 in
        read-lies w a b k.0 m.0 k.1 m.1

    holds : lies_in b a ≡ within (read_cube w b) (read_cube w a)
    holds =
        let p = pair-lent w a b accepted (sym t) refl in
        let k = lent-clean w a p.0 in
        let m = lent-clean w b p.1 in
        read-lies w b a m.0 k.0 m.1 k.1

    pub in-yes : lies_in a b ≡ true → silent yes ≡ cube_in w a b
    unfolding cube_in
    in-yes e = reached 0 in_rows (sym lies ∙ e) ∙ pair-passed w a b accepted (sym t) silent in_rows refl

    pub in-no : lies_in a b ≡ false → silent no ≡ cube_in w a b
    unfolding cube_in
    in-no e = reached 1 in_rows (sym lies ∙ e, tt) ∙ pair-passed w a b accepted (sym t) silent in_rows refl

    pub number-first : lies_in b a ≡ true → silent yes ≡ wider_number w a b
    unfolding wider_number
    number-first e = reached 0 either_rows (rw (sym holds ∙ e)) ∙ pair-passed w a b accepted (sym t) silent either_rows refl

    pub number-second : lies_in a b ≡ true → silent yes ≡ wider_number w a b
    unfolding wider_number
    number-second e = reached 0 either_rows (rw (sym lies ∙ e) (or-true (within (read_cube w b) (read_cube w a)))) ∙ pair-passed w a b accepted (sym t) silent either_rows refl

    pub number-neither : lies_in b a ≡ false → lies_in a b ≡ false → silent no ≡ wider_number w a b
    unfolding wider_number
    number-neither d e = reached 1 either_rows (rw (sym holds ∙ d, sym lies ∙ e), tt) ∙ pair-passed w a b accepted (sym t) silent either_rows refl

    pub wider-first : lies_in b a ≡ true → first ≡ wider w a b
    unfolding wider
    wider-first e = reached 0 wider_rows (sym holds ∙ e) ∙ pair-passed w a b accepted (sym t) (λ _. neither) wider_rows refl

    pub wider-second : lies_in b a ≡ false → lies_in a b ≡ true → second ≡ wider w a b
    unfolding wider
    wider-second d e = reached 1 wider_rows (sym holds ∙ d, sym lies ∙ e) ∙ pair-passed w a b accepted (sym t) (λ _. neither) wider_rows refl

    pub wider-neither : lies_in b a ≡ false → lies_in a b ≡ false → neither ≡ wider w a b
    unfolding wider
    wider-neither d e = reached 2 wider_rows (sym holds ∙ d, (sym lies ∙ e, tt)) ∙ pair-passed w a b accepted (sym t) (λ _. neither) wider_rows refl

    meeting : shares (codes a) (codes b) ≡ shares (read_cube w a) (read_cube w b)
    meeting =
        let p = pair-lent w a b accepted (sym t) refl in
        let k = lent-clean w a p.0 in
        let m = lent-clean w b p.1 in
        read-shares w a b k.0 m.0 k.1 m.1

    pub meet-apart : (room : ℕ) → shares (codes a) (codes b) ≡ false → silent no ≡ cube_meet w a b room
    unfolding cube_meet
    meet-apart room e = reached 0 (meet_rows room) (ap not (sym meeting ∙ e)) ∙ pair-passed w a b accepted (sym t) silent (meet_rows room) refl

    module _ (bytes : Bytes a) (e : shares (codes a) (codes b) ≡ true) where
      written : write_cube (meet (read_cube w a) (read_cube w b)) ≡ and_bytes a b
      written =
          let p = pair-lent w a b accepted (sym t) refl in
          let k = lent-clean w a p.0 in
          let m = lent-clean w b p.1 in
          read-meet w a b k.0 m.0 k.1 m.1 bytes

      size : length (write_cube (meet (read_cube w a) (read_cube w b))) ≡ length a
      size = ap length written ∙ length-and a b one_size

      pub meet-short : (room : ℕ) → room < length a → silent (refused 22) ≡ cube_meet w a b room
      unfolding cube_meet
      meet-short room l =
          let s = size in
          reached 1 (meet_rows room) (ap not (sym meeting ∙ e), omega arith) ∙ pair-passed w a b accepted (sym t) silent (meet_rows room) refl

      pub meet-written : (room : ℕ) → length a ≤ room → wrote_bytes (length a) (and_bytes a b) ≡ cube_meet w a b room
      unfolding cube_meet
      meet-written room l =
          let s = size in
          ap₂ wrote_bytes (sym size) (sym written)
          ∙ reached 2 (meet_rows room) (ap not (sym meeting ∙ e), (omega arith, tt)) ∙ pair-passed w a b accepted (sym t) silent (meet_rows room) refl

-- the wider of two references
abbrev rank : Which → ℕ
rank first = 0
rank second = 1
rank neither = 2

apart : (p q : Which) → (rank p ≡ rank q → ⊥) → p ≡ q → ⊥
apart p q n e = n (ap rank e)

module _ (w : ℕ) (a b : Bor (List ℕ)) where
  pub is-first : first ≡ wider w a.now b.now → WiderIs w a b a
  is-first e = record {
    first = λ _. refl;
    second = λ f. absurd (apart first second (λ n. omega arith) (e ∙ f));
    neither = λ f. absurd (apart first neither (λ n. omega arith) (e ∙ f));
  }

  pub is-second : second ≡ wider w a.now b.now → WiderIs w a b b
  is-second e = record {
    first = λ f. absurd (apart second first (λ n. omega arith) (e ∙ f));
    second = λ _. refl;
    neither = λ f. absurd (apart second neither (λ n. omega arith) (e ∙ f));
  }

  pub is-neither : (r : Bor (List ℕ)) → r.now ≡ [] → r.ref_ptr ≡ a.ref_ptr → neither ≡ wider w a.now b.now → WiderIs w a b r
  is-neither r n p e = record {
    first = λ f. absurd (apart neither first (λ n. omega arith) (e ∙ f));
    second = λ f. absurd (apart neither second (λ n. omega arith) (e ∙ f));
    neither = λ _. (n, p);
  }
