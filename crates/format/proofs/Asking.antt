-- What a call that walks tells: yes, no with a header, or that the allowance is too small.
--   Looks w In v             == the walk v, of headers of w positions, looks for the headers that In holds of
--   count-told               the count told is the decision's
--   Asks w n i In v Ok x     == a call with the allowance n, which accepts its operands and room exactly where Ok holds, tells x of such a walk, which
--                            stops at the index i
--   asks-yes, asks-yes-when  it says yes exactly when no header is in and the allowance pays for the walk
--   asks-survivor, asks-shown, asks-no    where it says no, the walk has a survivor, and it shows a header of that, so one that is in
--   asks-undecided, asks-undecided-when    it is undecided exactly when the walk has more pieces than the allowance, which is then the count
--   asks-count               where the allowance pays for the walk, its count is the walk's pieces
--   asks-told                it says yes, no or that it is undecided
--   asks-index, asks_none    its index is that where the walk stops, but for a yes, which has none
use Prim.Native.Nat.{ℕ, ◌≤◌, ◌<◌}
use native.Mathlib.Omega.{arith}
use mathlib.Core.Path.{◌≡◌, refl, sym, ap, ◌∙◌}
use mathlib.Core.Bool.{Bool, true, false, cond, true≢false}
use lib.Dec.{leb}
use lib.ListN.{length}
use borrow.Author.Tests.{leb-true, leb-false}
use Rattle.model.specs.Cube.{Header, Cube, holds, shown}
use Rattle.model.specs.Sized.{Sized}
use Rattle.model.specs.Walk.{Survivor, nothing, piece, Found, Decision, undecided, empty, member, count_of, decided, decide}
use Rattle.model.proofs.Cubes.{in-shown, length-shown}
use Rattle.model.proofs.Allowed.{undecided-when}
use Rattle.answer.specs.Answer as forms
use Rattle.answer.specs.Answer.{no_difference, counted, showing}
use Rattle.format.specs.Bytes.{header_len, read_header, write_header}
use Rattle.format.specs.Told.{Told, silent, deciding}
use Rattle.format.specs.Meaning.{Shown}
use Rattle.format.proofs.Heading.{read-written, header-accepted}

-- a walk
pub record Looks (w : ℕ) (In : Header → Bool) (v : Found) : Type 0 where
  pub none : v.survivor ≡ nothing → (h : Header) → In h ≡ false
  pub sized : (q : Cube) → v.survivor ≡ piece q → Sized w q
  pub some : (q : Cube) → v.survivor ≡ piece q → (h : Header) → holds q h ≡ true → In h ≡ true

-- the header shown
header-shown : (w n i : ℕ) (In : Header → Bool) (h : Header) → length h ≡ w → In h ≡ true
    → Shown w In (record { answer = showing n (header_len w) i; bytes = write_header h })
header-shown w n i In h l inside =
    let same : read_header w (write_header h) ≡ h = rw (← l) (read-written h) in
    record {
      long = (header-accepted h).0 ∙ ap header_len l;
      told = refl;
      clear = rw (← l) (header-accepted h).1;
      wide = rw same l;
      inside = rw same inside;
    }

-- what an allowance makes of a walk, told: the three cases
told-by : (P : Told → Type 0) (w n i : ℕ) (v : Found) → (n < v.pieces → P (silent (forms.undecided n i)))
    → (v.pieces ≤ n → v.survivor ≡ nothing → P (silent (counted 1 v.pieces)))
    → ((q : Cube) → v.pieces ≤ n → v.survivor ≡ piece q
    → P (record { answer = showing v.pieces (header_len w) i; bytes = write_header (shown q) }))
    → P (deciding w (decide n i v))
unfolding decide
told-by P w n i v u e m = go (leb v.pieces n) refl v.survivor refl
  where
    go : (g : Bool) → leb v.pieces n ≡ g → (s : Survivor) → v.survivor ≡ s → P (deciding w (cond g (decided v.pieces i s) (undecided n i)))
    go true h nothing k = e (leb-true _ _ h) k
    go true h (piece q) k = m q (leb-true _ _ h) k
    go false h s k = u (leb-false _ _ h)

pub count-told : (w : ℕ) (d : Decision) → (deciding w d).answer.count ≡ count_of d
count-told w (undecided n i) = refl
count-told w (empty n) = refl
count-told w (member n i q) = refl

-- a call that walks
pub record Asks (w n i : ℕ) (In : Header → Bool) (v : Found) (Ok : Type 0) (x : Told) : Type 0 where
  pub accepted : x.answer.number < 10 → Ok
  pub told : Ok → x ≡ deciding w (decide n i v)
  pub looks : Ok → Looks w In v

module _ {w n i : ℕ} {In : Header → Bool} {v : Found} {Ok : Type 0} {x : Told} (a : Asks w n i In v Ok x) where
  pub asks-yes : x.answer.number ≡ 1 → Ok × (v.pieces ≤ n) × ((h : Header) → In h ≡ false)
  asks-yes e =
      let l = a.accepted (omega arith) in
      told-by (λ y. y.answer.number ≡ 1 → Ok × (v.pieces ≤ n) × ((h : Header) → In h ≡ false)) w n i v
      (λ m z. absurd (omega arith)) (λ m s z. (l, m, (a.looks l).none s)) (λ q m s z. absurd (omega arith)) (rw (a.told l) at e)

  pub asks-yes-when : Ok → v.pieces ≤ n → ((h : Header) → length h ≡ w → In h ≡ false) → x.answer.number ≡ 1
  asks-yes-when l m out =
      rw (a.told l)
      (told-by (λ y. y.answer.number ≡ 1) w n i v (λ f. absurd (omega arith)) (λ f s. refl)
      (λ q f s.
      let g = (a.looks l).sized q s in
      let inside = (a.looks l).some q s (shown q) (in-shown q g.filled) in
      absurd (true≢false (sym inside ∙ out (shown q) (length-shown q ∙ g.wide)))))

  pub asks-survivor : x.answer.number ≡ 2 → Ok × (v.pieces ≤ n) × ((q : Cube) × (v.survivor ≡ piece q))
  asks-survivor e =
      let l = a.accepted (omega arith) in
      told-by (λ y. y.answer.number ≡ 2 → Ok × (v.pieces ≤ n) × ((q : Cube) × (v.survivor ≡ piece q))) w n i v
      (λ m z. absurd (omega arith)) (λ m s z. absurd (omega arith)) (λ q m s z. (l, m, (q, s))) (rw (a.told l) at e)

  pub asks-shown : (At : Header → Bool)
      → ((q : Cube) → v.pieces ≤ n → v.survivor ≡ piece q → (h : Header) → holds q h ≡ true → At h ≡ true)
      → x.answer.number ≡ 2 → Ok × (v.pieces ≤ n) × Shown w At x
  asks-shown At inside e =
      let l = a.accepted (omega arith) in
      rw (a.told l)
      (told-by (λ y. y.answer.number ≡ 2 → Ok × (v.pieces ≤ n) × Shown w At y) w n i v
      (λ m z. absurd (omega arith)) (λ m s z. absurd (omega arith))
      (λ q m s z.
      let g = (a.looks l).sized q s in
      (l, m, header-shown w _ i At (shown q) (length-shown q ∙ g.wide) (inside q m s (shown q) (in-shown q g.filled))))
      (rw (a.told l) at e))

  pub asks-no : x.answer.number ≡ 2 → Ok × (v.pieces ≤ n) × Shown w In x
  asks-no e = asks-shown In (λ q m s. (a.looks (a.accepted (omega arith))).some q s) e

  pub asks-undecided : x.answer.number ≡ 3 → Ok × (n < v.pieces) × (x.answer.count ≡ n)
  asks-undecided e =
      let l = a.accepted (omega arith) in
      rw (a.told l)
      (told-by (λ y. y.answer.number ≡ 3 → Ok × (n < v.pieces) × (y.answer.count ≡ n)) w n i v
      (λ m z. (l, m, refl)) (λ m s z. absurd (omega arith)) (λ q m s z. absurd (omega arith)) (rw (a.told l) at e))

  pub asks-undecided-when : Ok → n < v.pieces → x.answer.number ≡ 3
  asks-undecided-when l m = rw (a.told l, undecided-when n i v m)

  pub asks-count : Ok → v.pieces ≤ n → x.answer.count ≡ v.pieces
  asks-count l m =
      rw (a.told l)
      (told-by (λ y. y.answer.count ≡ v.pieces) w n i v (λ f. absurd (omega arith)) (λ f s. refl) (λ q f s. refl))

  pub asks-told : Ok → (1 ≤ x.answer.number) × (x.answer.number ≤ 3)
  asks-told l =
      rw (a.told l)
      (told-by (λ y. (1 ≤ y.answer.number) × (y.answer.number ≤ 3)) w n i v (λ f. omega arith) (λ f s. omega arith) (λ q f s. omega arith))

  pub asks-index : 2 ≤ x.answer.number → x.answer.number ≤ 3 → x.answer.index ≡ i
  asks-index some few =
      let l = a.accepted (omega arith) in
      rw (a.told l)
      (told-by (λ y. 2 ≤ y.answer.number → y.answer.index ≡ i) w n i v
      (λ m z. refl) (λ m s z. absurd (omega arith)) (λ q m s z. refl) (rw (a.told l) at some))

  pub asks_none : x.answer.number ≡ 1 → x.answer.index ≡ no_difference
  asks_none e =
      let l = a.accepted (omega arith) in
      rw (a.told l)
      (told-by (λ y. y.answer.number ≡ 1 → y.answer.index ≡ no_difference) w n i v
      (λ m z. absurd (omega arith)) (λ m s z. refl) (λ q m s z. absurd (omega arith)) (rw (a.told l) at e))
