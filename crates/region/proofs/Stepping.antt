-- Reading on from place 0, step after step. Reading on does not count the differences, so a file that is refused with 19 is read on past its 256th
-- difference: what comes after the differences before the refused record is said for every other refusal.
--   accepted-steps    an accepted file's steps give each difference once, in order, at its record's offset, and then 2 for ever
--   passed-steps      a refused file's first steps give likewise the differences before the refused record
--   refused-steps     the steps after them give, but for 19, that refusal for ever
--   told-answers      a reader's steps are those of reading on in its file from its place
use Prim.Native.Nat.{ℕ, zero, suc, ◌+◌, ◌-◌, ◌≤◌, ◌<◌}
use native.Mathlib.Nat.{add-zero, zero-add, suc-add}
use native.Mathlib.Omega.{arith}
use mathlib.Core.Path.{◌≡◌, refl, sym, ap, ◌∙◌, subst}
use mathlib.Core.List.{List, [], ◌∷◌, ◌++◌, map, append-nil}
use mathlib.Core.Bool.{Bool, true, false, cond, not}
use borrow.Author.Tests.{lt-ltb, le-ltb, ne_eqb, leb-true, leb-false, eqb-true, eqb-false}
use lib.Dec.{leb, eqb, ltb}
use lib.ListN.{length, replicate}
use Rattle.answer.specs.declared.Answer.{Answer}
use Rattle.answer.specs.Answer.{no, fault, placed}
use Rattle.format.specs.Rows.{passes, outcome}
use Rattle.format.specs.Limits.{most_differences, difference_kind}
use Rattle.format.specs.Records.{length_at, kind_at, next_at, width_of, first_at, width_fault, difference_rows, difference_fault}
use Rattle.format.specs.Files.{Reading, faulty, whole, fault_number, fault_offset, before, differences_from, read_file}
use Rattle.format.specs.Calls.{stay, start_of, read_on}
use Rattle.format.proofs.Reached.{reached}
use Rattle.format.proofs.Recording.{Record, record_of}
use Rattle.format.proofs.Filing.{from_end, from-refused, from-record, read-refused, read-begun, Listed, ended, listed, file-of}
use Rattle.region.specs.Front.{front_at}
use Rattle.region.specs.Ahead.{ahead}
use Rattle.region.specs.Stepping.{turned, answers, told, before_at, records_before}
use Rattle.region.specs.declared.reader.Reader.{Reader}
use Rattle.region.proofs.Fronts.{front-own, front-next}
use Rattle.region.proofs.Onward.{ahead-next}

-- one step, by what stands where it looks
module _ (s : List ℕ) (p : ℕ) where
  on-width : (width_fault s ≡ 0 → ⊥) → read_on s p ≡ stay (fault (width_fault s) 1 0) p
  unfolding read_on
  on-width z = sym (reached 0 _ z)

  module _ (at : ℕ) (f : width_fault s ≡ 0) (e : start_of s p ≡ at) where
    on-end : at ≡ length s → read_on s p ≡ stay no p
    unfolding read_on
    on-end l = sym (reached 1 _ (f, e ∙ l))

    on-refused : at < length s → (difference_fault false (width_of s) 0 s at ≡ 0 → ⊥)
        → read_on s p ≡ stay (fault (difference_fault false (width_of s) 0 s at) 1 at) p
    unfolding read_on
    on-refused l z = rw (← e) (sym (reached 2 _ (f, (λ x. omega arith, rw e z))))

    on-record : at < length s → difference_fault false (width_of s) 0 s at ≡ 0 → read_on s p ≡ record { answer = placed at; place = next_at s at }
    unfolding read_on
    on-record l z = rw (← e) (sym (reached 3 _ (f, (λ x. omega arith, (rw e z, tt)))))

  stuck : (a : Answer) → read_on s p ≡ stay a p → (m : ℕ) → answers m s p ≡ replicate m a
  stuck a e zero = refl
  stuck a e (suc m) = rw e (ap (λ (l : List Answer). a ∷ l) (stuck a e m))

  one_more : (at q m : ℕ) (os : List ℕ) (l : List Answer) → read_on s p ≡ record { answer = placed at; place = q }
      → answers (length os + m) s q ≡ map placed os ++ l → answers (length (at ∷ os) + m) s p ≡ map placed (at ∷ os) ++ l
  one_more at q m os l e more = rw (suc-add, e) (ap (λ (x : List Answer). placed at ∷ x) more)

start-next : (s : List ℕ) (at : ℕ) → start_of s (next_at s at) ≡ next_at s at
start-next s at = rw (ne_eqb (next_at s at) 0 (omega arith))

-- a record that is accepted is accepted with none before it
uncounted-record : {w n : ℕ} {s : List ℕ} {at : ℕ} → Record false w n s at → difference_fault false w 0 s at ≡ 0
unfolding difference_fault
uncounted-record {w} {n} {s} {at} r = sym (reached 9 (difference_rows false w 0 s at) (omega (arith, r))) ∙ r.cubes

-- a record that is refused is refused so with none before it, if it is not for the count
leave-count : (a b c d e : Bool) (x : ℕ) → (cond a 15 (cond b 15 (cond c 17 (cond d 16 (cond e 19 x)))) ≡ 19 → ⊥)
    → cond a 15 (cond b 15 (cond c 17 (cond d 16 (cond e 19 x)))) ≡ cond a 15 (cond b 15 (cond c 17 (cond d 16 x)))
leave-count true b c d e x z = refl
leave-count false true c d e x z = refl
leave-count false false true d e x z = refl
leave-count false false false true e x z = refl
leave-count false false false false true x z = absurd (z refl)
leave-count false false false false false x z = refl

uncounted : (w n : ℕ) (s : List ℕ) (at : ℕ) → (difference_fault false w n s at ≡ 19 → ⊥)
    → difference_fault false w n s at ≡ difference_fault false w 0 s at
unfolding difference_fault outcome passes
uncounted w n s at z =
    leave-count (ltb (length s) (at + 2)) (ltb (length s) (next_at s at)) (ltb (length_at s at) 2) (not (eqb (kind_at s at) difference_kind))
    (ltb most_differences (n + 1)) _ z

-- an accepted file
listed-steps : {s : List ℕ} {at n : ℕ} {os : List ℕ} → width_fault s ≡ 0 → Listed (width_of s) s at n os → (p : ℕ) → start_of s p ≡ at
    → at ≤ length s
    → (m : ℕ) → answers (length os + m) s p ≡ map placed os ++ replicate m no
listed-steps {s} f (ended {at} h) p e l m = rw zero-add (stuck s p no (on-end s p at f e (omega arith)) m)
listed-steps {s} f (listed {at} {os = os} r rest) p e l m =
    one_more s p at (next_at s at) m os (replicate m no) (on-record s p at f e (omega (arith, r)) (uncounted-record r))
    (listed-steps f rest (next_at s at) (start-next s at) r.within m)

width-accepted : (s : List ℕ) (b : Bool) → eqb (width_fault s) 0 ≡ b → fault_number (read_file s) ≡ 0 → width_fault s ≡ 0
width-accepted s true e z = eqb-true (width_fault s) 0 e
width-accepted s false e z = let f = eqb-false (width_fault s) 0 e in sym (ap fault_number (read-refused s f)) ∙ z

pub accepted-steps : (s : List ℕ) {os : List ℕ} → read_file s ≡ whole os → (m : ℕ)
    → answers (length os + m) s 0 ≡ map placed os ++ replicate m no
accepted-steps s e m =
    let f = file-of s (ap fault_number e) in
    let z = width-accepted s (eqb (width_fault s) 0) refl (ap fault_number e) in
    listed-steps z (rw e at f.list) 0 refl f.width.long m

-- a refused file
before_here : (o at : ℕ) (os : List ℕ) → o < at → before_at at (o ∷ os) ≡ o ∷ before_at at os
before_here o at os h = rw (lt-ltb o at h)

before-none : (at o : ℕ) (os : List ℕ) → at ≤ o → before_at at (o ∷ os) ≡ []
before-none at o os h = rw (le-ltb o at h)

nothing-before : (os : List ℕ) → before_at 0 os ≡ []
nothing-before [] = refl
nothing-before (o ∷ os) = before-none 0 o os (omega arith)

abbrev Stops : Reading → Type 0
Stops (faulty f at) = Unit {0}
Stops (whole os) = ⊥

stops : {f o : ℕ} (r : Reading) → r ≡ faulty f o → Stops r
stops r e = subst Stops (sym e) tt

later-refused : {f o : ℕ} (at : ℕ) (r : Reading) → before at r ≡ faulty f o → r ≡ faulty f o
later-refused at (faulty g u) e = e
later-refused at (whole os) e = absurd (stops (whole (at ∷ os)) e)

-- the steps from p on give the records from an offset to o, and are then those from q on
abbrev Goes : List ℕ → ℕ → ℕ → ℕ → ℕ → Type 0
Goes s at p o q = (m : ℕ) → answers (length (before_at o (ahead s at)) + m) s p ≡ map placed (before_at o (ahead s at)) ++ answers m s q

-- the steps come to the record at o, which is refused with f where n records are counted before it
record Stopped (s : List ℕ) (f at o p : ℕ) : Type 0 where
  past : at ≤ o
  inside : o < length s
  n : ℕ
  number : difference_fault false (width_of s) n s o ≡ f
  some : f ≡ 0 → ⊥
  place : ℕ
  start : start_of s place ≡ o
  goes : Goes s at p o place

module _ (s : List ℕ) (ok : width_fault s ≡ 0) where
  goes-here : (at p : ℕ) → at < length s → Goes s at p at p
  goes-here at p l m =
      let none : before_at at (ahead s at) ≡ [] = rw (ahead-next s at l) (before-none at at (ahead s (front_at s at).next) (omega arith)) in
      rw (none, zero-add) refl

  goes-record : (at p o q : ℕ) → start_of s p ≡ at → at < length s → at < o → difference_fault false (width_of s) 0 s at ≡ 0
      → Goes s (next_at s at) (next_at s at) o q → Goes s at p o q
  goes-record at p o q e l h z more m =
      let os = before_at o (ahead s (next_at s at)) in
      let to = front-next (record_of false (width_of s) 0 s at z) (front-own s at) in
      let first : before_at o (ahead s at) ≡ at ∷ os = rw (ahead-next s at l, to) (before_here at o (ahead s (next_at s at)) h) in
      rw first (one_more s p at (next_at s at) m os (answers m s q) (on-record s p at ok e l z) (more m))

  module _ (f o : ℕ) where
    abbrev Stops-at : ℕ → ℕ → ℕ → Type 0
    Stops-at at n p = differences_from (length s - n) (width_of s) s at n ≡ faulty f o → Stopped s f at o p

    stopped-turn : (at n p : ℕ) (a b : Bool) → leb (length s) at ≡ a → eqb (difference_fault false (width_of s) n s at) 0 ≡ b → n ≤ at
        → start_of s p ≡ at
        → Stops-at (next_at s at) (n + 1) (next_at s at) → Stops-at at n p
    stopped-turn at n p true b x y k e later r = absurd (stops (whole []) (sym (from_end (width_of s) s at n (length s - n) (leb-true (length s) at x)) ∙ r))
    stopped-turn at n p false true x y k e later r =
        let l = leb-false (length s) at x in
        let here = eqb-true (difference_fault false (width_of s) n s at) 0 y in
        let more = later (later-refused at _ (sym (from-record (width_of s) s at n k l here) ∙ r)) in
        let far : at < o = omega (arith, more.past) in
        record {
          past = omega arith;
          inside = more.inside;
          n = more.n;
          number = more.number;
          some = more.some;
          place = more.place;
          start = more.start;
          goes = goes-record at p o more.place e l far (uncounted-record (record_of false (width_of s) n s at here)) more.goes;
        }
    stopped-turn at n p false false x y k e later r =
        let l = leb-false (length s) at x in
        let here = eqb-false (difference_fault false (width_of s) n s at) 0 y in
        let this = sym (from-refused (width_of s) s at n k l here) ∙ r in
        let number : difference_fault false (width_of s) n s at ≡ f = ap fault_number this in
        let stopped : Stopped s f at at p = record {
          past = omega arith;
          inside = l;
          n = n;
          number = number;
          some = λ q. here (number ∙ q);
          place = p;
          start = e;
          goes = goes-here at p l;
        } in
        subst (λ (u : ℕ). Stopped s f at u p) (ap fault_offset this) stopped

    stopped-from : (t at n p : ℕ) → length s ≤ at + t → n ≤ at → start_of s p ≡ at → Stops-at at n p
    stopped-from zero at n p h k e r = absurd (stops (whole []) (sym (from_end (width_of s) s at n (length s - n) (omega arith)) ∙ r))
    stopped-from (suc t) at n p h k e r =
        let later = stopped-from t (next_at s at) (n + 1) (next_at s at) (omega arith) (omega arith) (start-next s at) in
        stopped-turn at n p (leb (length s) at) (eqb (difference_fault false (width_of s) n s at) 0) refl refl k e later r

    file-stopped : read_file s ≡ faulty f o → Stopped s f (first_at s) o 0
    file-stopped e = stopped-from (length s) (first_at s) 0 0 (omega arith) (omega arith) refl (sym (read-begun s ok) ∙ e)

    -- reading on refuses the record with the same number, if it is not for the count
    stopped-on : (st : Stopped s f (first_at s) o 0) → (f ≡ 19 → ⊥) → read_on s st.place ≡ stay (fault f 1 o) st.place
    stopped-on st z =
        let same = sym (uncounted (width_of s) st.n s o (λ q. z (sym st.number ∙ q))) ∙ st.number in
        let step = on-refused s st.place o ok st.start st.inside (λ q. st.some (sym same ∙ q)) in
        step ∙ ap (λ (u : ℕ). stay (fault u 1 o) st.place) same

-- a refused file's steps come to a place, and stay there with the refusal if it is not for the count
abbrev Comes : List ℕ → ℕ → ℕ → Type 0
Comes s f at = (q : ℕ) × Goes s (first_at s) 0 at q × ((f ≡ 19 → ⊥) → read_on s q ≡ stay (fault f 1 at) q)

comes : (s : List ℕ) (f at : ℕ) (b : Bool) → eqb (width_fault s) 0 ≡ b → read_file s ≡ faulty f at → Comes s f at
comes s f at true x e =
    let ok = eqb-true (width_fault s) 0 x in
    let st = file-stopped s ok f at e in
    (st.place, st.goes, stopped-on s ok f at st)
comes s f at false x e =
    let wrong = eqb-false (width_fault s) 0 x in
    let this = sym (read-refused s wrong) ∙ e in
    let here : Comes s (width_fault s) 0 = (0, λ m. rw (nothing-before (ahead s (first_at s)), zero-add) refl, λ z. on-width s 0 wrong) in
    subst (λ (u : ℕ). Comes s f u) (ap fault_offset this) (subst (λ (u : ℕ). Comes s u 0) (ap fault_number this) here)

module _ (s : List ℕ) {f at : ℕ} (e : read_file s ≡ faulty f at) where
  pub passed-steps : answers (length (records_before s at)) s 0 ≡ map placed (records_before s at)
  passed-steps = rw (add-zero, append-nil) at ((comes s f at (eqb (width_fault s) 0) refl e).1 0)

  pub refused-steps : (f ≡ 19 → ⊥) → (m : ℕ)
      → answers (length (records_before s at) + m) s 0 ≡ map placed (records_before s at) ++ replicate m (fault f 1 at)
  refused-steps z m =
      let c = comes s f at (eqb (width_fault s) 0) refl e in
      c.1 m ∙ ap (λ (l : List Answer). map placed (records_before s at) ++ l) (stuck s c.0 (fault f 1 at) (c.2 z) m)

-- a reader
pub told-answers : (n : ℕ) (r : Reader) → told n r ≡ answers n r.file.now r.place
told-answers zero r = refl
told-answers (suc n) r = ap (λ (l : List Answer). (turned r).answer ∷ l) (told-answers n (turned r).reader)
