-- What a call that walks tells: when it decides (`Decides`), what it leaves untouched, and how much it counts.
--   walking-tells            the walk is answered exactly where the header buffer is long enough
--   decides                  demand 3, from what the format says of a call's yes, no and undecided, and the model of where walks stop
--   Shows x                  == x writes only where it says no, and where it refuses counts nothing and has no index
--   deciding-shows           so does what an allowance makes of a walk
--   walk_kept                a call that decides, by a table that ends so, is Kept: where it says no it writes the header that it shows
--   pieces-at-most-ceilings  a region's walk has at most as many pieces as its ceilings say
--   count-at-most-pieces     whatever the allowance, no more are counted than the walk has
--   at_most                  no more than that are counted by a table whose last line counts no more
use Prim.Native.Nat.{ℕ, ◌≤◌}
use native.Mathlib.Omega.{arith}
use mathlib.Core.Path.{◌≡◌, refl, sym, ◌∙◌}
use mathlib.Core.List.{List, [], ◌∷◌}
use mathlib.Core.Bool.{Bool, true, false, true≢false}
use lib.Dec.{eqb}
use lib.ListN.{length}
use borrow.Author.Tests.{eqb-true, eqb-false}
use Rattle.model.specs.Cube.{Header}
use Rattle.model.specs.Difference.{Region, in_difference}
use Rattle.model.specs.Walk.{Found, walk, walk_region, Decision, undecided, empty, member, count_of, decide}
use Rattle.model.specs.Index.{difference_of}
use Rattle.model.proofs.Turns.{next-at-most}
use Rattle.model.proofs.Indexing.{Stops}
use Rattle.model.proofs.Bound.{pieces-at-most-ceiling}
use Rattle.model.proofs.Allowed.{decide_by}
use Rattle.answer.specs.Answer.{no_difference}
use Rattle.format.specs.Rows.{Rows, outcome}
use Rattle.format.specs.Bytes.{header_len, read_header}
use Rattle.format.specs.Told.{Told, deciding, walking}
use Rattle.format.proofs.Asking.{Asks, count-told, asks-yes, asks-yes-when, asks-survivor, asks-shown, asks-no, asks-undecided, asks-undecided-when}
use Rattle.format.proofs.Asking.{asks-count, asks-told, asks-index, asks_none}
use Rattle.promises.specs.Outcome.{Kept}
use Rattle.promises.specs.Accepted.{Tells}
use Rattle.promises.specs.Decides.{Decides, ceilings}
use Rattle.promises.proofs.Telling.{by-table}
use Rattle.promises.proofs.Keeping.{Mute, LastLine, told-by}

pub walking-tells : (w n room i : ℕ) (v : Found) → Tells (header_len w ≤ room) (deciding w (decide n i v)) (outcome (walking w n room i v))
walking-tells w n room i v = by-table 1 _ (omega arith) (omega arith) (omega arith)

-- what an allowance makes of a walk
module _ {w n i : ℕ} {In : Header → Bool} {v : Found} {Ok : Type 0} {x : Told} (a : Asks w n i In v Ok x)
    {ds : Region} {vs : List Found} (stops : Stops n ds vs v i) where
  no-when : Ok → v.pieces ≤ n → (h : Header) → In h ≡ true → x.answer.number ≡ 2
  no-when o paid h inside =
      let not_yes : x.answer.number ≡ 1 → ⊥ = λ e. let (_, _, none) = asks-yes a e in true≢false (sym inside ∙ none h) in
      let not_late : x.answer.number ≡ 3 → ⊥ = λ e. let (_, unpaid, _) = asks-undecided a e in omega arith in
      omega (arith, asks-told a o)

  pub decides : Decides w n In v ds vs Ok x
  decides =
      record {
        yes = (asks-yes a, λ (o, paid, none). asks-yes-when a o paid (λ h l. none h));
        no = (
          λ e. let (o, paid, shown) = asks-no a e in (o, paid, (read_header w x.bytes, shown.inside)),
          λ (o, paid, (h, inside)). no-when o paid h inside,
        );
        shown = λ e. let (_, _, shown) = asks-no a e in shown;
        undecided = (λ e. let (o, unpaid, _) = asks-undecided a e in (o, unpaid), λ (o, unpaid). asks-undecided-when a o unpaid);
        yes_count = λ e. let (o, paid, _) = asks-yes a e in asks-count a o paid;
        no_count = λ e. let (o, paid, _) = asks-no a e in asks-count a o paid;
        undecided_count = λ e. let (_, _, all) = asks-undecided a e in all;
        yes_index = asks_none a;
        no_index = λ e.
            let (_, paid, (q, some)) = asks-survivor a e in
            let (passed, _) = stops.shown q paid some in
            let (_, _, shown) = asks-shown a (in_difference (difference_of ds i)) (λ p m s. (stops.shown p m s).1) e in
            rw (asks-index a (omega arith) (omega arith)) (passed, shown.inside);
        undecided_index = λ e. let (_, unpaid, _) = asks-undecided a e in rw (asks-index a (omega arith) (omega arith)) (stops.late unpaid);
      }

-- what is written
pub record Shows (x : Told) : Type 0 where
  pub silent : (x.answer.number ≡ 2 → ⊥) → length x.bytes ≡ 0
  pub unwritten : (x.answer.number ≡ 2 → ⊥) → x.answer.written ≡ 0
  pub uncounted : 10 ≤ x.answer.number → x.answer.count ≡ 0
  pub unindexed : 10 ≤ x.answer.number → x.answer.index ≡ no_difference

pub deciding-shows : (w : ℕ) (d : Decision) → Shows (deciding w d)
deciding-shows w (undecided n i) = omega arith
deciding-shows w (empty n) = omega arith
deciding-shows w (member n i p) = record { silent = λ f. absurd (f refl); unwritten = λ f. absurd (f refl); uncounted = omega arith; unindexed = omega arith }

pub walk_kept : {w n room : ℕ} {In : Header → Bool} {v : Found} {ds : Region} {vs : List Found} {Ok : Type 0} (k : Rows Told)
    → Mute k → LastLine Shows k → Decides w n In v ds vs Ok (outcome k) → (Ok → header_len w ≤ room) → Kept room (outcome k)
walk_kept {room = room} k mute line d fits = go (eqb (outcome k).answer.number 2) refl
  where
    go : (b : Bool) → eqb (outcome k).answer.number 2 ≡ b → Kept room (outcome k)
    go true e =
        let no = eqb-true (outcome k).answer.number 2 e in
        let shown = d.shown no in
        let (o, _, _) = d.no.0 no in
        let room-enough = fits o in
        omega arith
    go false e =
        let no = eqb-false (outcome k).answer.number 2 e in
        let shows = told-by Shows (λ x bytes written count index. omega arith) k mute line in
        let none = shows.silent no in
        let told = shows.unwritten no ∙ sym none in
        record {
          refused = λ n. none;
          yes = λ n. none;
          undecided = λ n. none;
          uncounted = shows.uncounted;
          unindexed = shows.unindexed;
          told = told;
          fits = omega arith;
        }

-- what is counted
pub pieces-at-most-ceilings : (r : Region) → (walk_region r).pieces ≤ ceilings r
pieces-at-most-ceilings [] = omega arith
pieces-at-most-ceilings (d ∷ r) = omega (arith, next-at-most (walk d) (walk_region r), pieces-at-most-ceiling d, pieces-at-most-ceilings r)

pub count-at-most-pieces : (w n i : ℕ) (v : Found) → (deciding w (decide n i v)).answer.count ≤ v.pieces
count-at-most-pieces w n i v =
    rw (count-told w (decide n i v))
    (decide_by (λ d. count_of d ≤ v.pieces) n i v (λ unpaid. omega arith) (λ paid none. omega arith) (λ q paid some. omega arith))

pub at_most : (most : ℕ) (k : Rows Told) → Mute k → LastLine (λ x. x.answer.count ≤ most) k → (outcome k).answer.count ≤ most
at_most most = told-by (λ x. x.answer.count ≤ most) (λ x e f c i. omega arith)
