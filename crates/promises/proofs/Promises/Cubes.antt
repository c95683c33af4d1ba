-- What is promised of two lent cubes, by `cube_meet`, `cube_in`, `wider` and `wider_number`. Beside the lines that the page has of every call:
--   cube_meet-means, cube_meet-none    the cube written holds the headers of both; where the answer is 2, no header is in both
--   cube_meet-written        the bytes written are accepted as a lent cube, and it is the meet
--   cube_in-yes, cube_in-no  yes says that every header of the first is in the second, no that one is not
--   wider-means              which of two accepted cubes is handed back
--   wider-first, wider-second    the cube that is handed back holds every header of the other
--   wider-neither            none is handed back exactly where the separate question does not say yes
--   wider_number-yes, wider_number-no  yes says that one of the cubes holds every header of the other, no that neither does
use Prim.Native.Nat.{ℕ, ◌≤◌}
use native.Mathlib.Omega.{arith}
use mathlib.Core.Path.{◌≡◌, refl, sym, ap, ◌∙◌}
use mathlib.Core.List.{List}
use mathlib.Core.Logic.{◌↔◌, ◌⊎◌}
use mathlib.Core.Bool.{Bool, true, false, cond, not, ◌&&◌, ◌||◌, true≢false}
use lib.ListN.{length}
use denote.Ref.{Bor}
use Rattle.model.specs.Cube.{Header, holds, meet, shares, within}
use Rattle.model.proofs.Cubes.{length_meet}
use Rattle.answer.specs.Answer.{no}
use Rattle.format.specs.Rows.{last, row, so, passes, outcome}
use Rattle.format.specs.Bytes.{cube_len, read_cube, write_cube}
use Rattle.format.specs.Told.{Told, silent, wide, lent_cube, writing}
use Rattle.format.specs.Calls.{cube_meet, cube_in, Which, first, second, neither, wider, wider_number}
use Rattle.format.specs.Meaning.{WrittenCube, Inside, Outside}
use Rattle.format.proofs.Reached.{each, skipped}
use Rattle.format.proofs.Refusals.{lent-refusal}
use Rattle.format.proofs.Coding.{lent_length, read_length}
use Rattle.format.proofs.Rewriting
use Rattle.format.proofs.Belonging
use Rattle.cube.specs.Call.{WiderIs}
use Rattle.cube.proofs.cube_meet as cube_meet-call
use Rattle.cube.proofs.cube_in as cube_in-call
use Rattle.cube.proofs.wider as wider-call
use Rattle.cube.proofs.wider_number as wider_number-call
pub use Rattle.cube.proofs.cube_meet.Met.{met as cube_meet-met}
pub use Rattle.cube.proofs.cube_in.Met.{met as cube_in-met}
pub use Rattle.cube.proofs.wider.Met.{met as wider-met}
pub use Rattle.cube.proofs.wider_number.Met.{met as wider_number-met}
use Rattle.promises.specs.Outcome.{Promise, Buffered, OneOutcome, OneResult, SameStretch, Kept}
use Rattle.promises.specs.Accepted.{Tells, yes_no, writes, Cubes}
use Rattle.promises.proofs.Agreeing.{permitted, agree, same-result}
use Rattle.promises.proofs.Telling.{by-table, and_then, yes-no, cube-size}
use Rattle.promises.proofs.Keeping.{kept}

-- the tests of two lent cubes pass exactly where both are accepted
cubes-tell : (w : ℕ) (a b : List ℕ) (y : Told) → Tells (Cubes w a b) y (outcome (wide w (lent_cube w a 1 (lent_cube w b 2 (last y)))))
cubes-tell w a b y = by-table 4 _ (omega (arith, lent-refusal w a, lent-refusal w b)) (omega arith) (omega arith)

-- CUBE_MEET: the cube of the common headers, or 2 (FORMAT 67)
pub cube_meet-promise : Promise cube_meet-call.Kinds.ps cube_meet-call.Kinds.r cube_meet-call.Reads.Asked cube_meet-call.Reads.Learnt
    (λ κs (w, (a, (b, (old, _)))) x (_, (_, (_, (new, _)))). Buffered (cube_meet w a.now b.now) old x new)
cube_meet-promise = record { anything = λ κs a. tt; permits = λ κs a x e. permitted }

meet-size : {w : ℕ} {a b : List ℕ} → Cubes w a b → length (write_cube (meet (read_cube w a) (read_cube w b))) ≡ cube_len w
meet-size {w} {a} {b} c =
    let m = read_length w a (lent_length w a c.first) in
    let n = read_length w b (lent_length w b c.second) in
    cube-size w (meet (read_cube w a) (read_cube w b)) (length_meet (read_cube w a) (read_cube w b) (m ∙ sym n) ∙ m)

-- bytes are written exactly where they fit
writing-tells : (bs : List ℕ) {size : ℕ} → length bs ≡ size → (room : ℕ) → Tells (size ≤ room) (writes bs) (outcome (writing bs room))
writing-tells bs e room = by-table 1 _ (omega arith) (omega arith) (omega arith)

-- where the cubes share a header
meeting-tells : (t : Bool) (bs : List ℕ) {size : ℕ} → length bs ≡ size → (room : ℕ)
    → Tells (t ≡ true → size ≤ room) (cond t (writes bs) (silent no)) (outcome (row (so (not t)) (silent no) (writing bs room)))
unfolding outcome passes
meeting-tells true bs e room = let a = writing-tells bs e room in record { accepted = λ l h. a.accepted l; told = λ f. a.told (f refl) }
meeting-tells false bs e room = record { accepted = λ l h. absurd (true≢false (sym h)); told = λ f. refl }

module _ (w : ℕ) (a b : List ℕ) where
  pub cube_meet-agrees : (old : List ℕ) → OneOutcome (cube_meet w a b (length old)) old
  cube_meet-agrees old = agree _ _

  pub cube_meet-answered : (room : ℕ)
      → let c = read_cube w a in
      let d = read_cube w b in
      Tells (Cubes w a b × (shares c d ≡ true → cube_len w ≤ room)) (cond (shares c d) (writes (write_cube (meet c d))) (silent no))
      (cube_meet w a b room)
  unfolding cube_meet outcome
  cube_meet-answered room =
      let c = read_cube w a in
      let d = read_cube w b in
      and_then (cubes-tell w a b _) (λ lent. meeting-tells (shares c d) (write_cube (meet c d)) (meet-size lent) room)

  pub cube_meet-kept : (room : ℕ) → Kept room (cube_meet w a b room)
  unfolding cube_meet
  cube_meet-kept room = kept room _ (omega arith) (omega arith)

  pub cube_meet-means : (room : ℕ) → (cube_meet w a b room).answer.number ≡ 0 → (h : Header)
      → holds (read_cube w (cube_meet w a b room).bytes) h ≡ holds (read_cube w a) h && holds (read_cube w b) h
  cube_meet-means = Rewriting.in-cube_meet w a b

  pub cube_meet-none : (room : ℕ) → (cube_meet w a b room).answer.number ≡ 2 → (h : Header)
      → holds (read_cube w a) h && holds (read_cube w b) h ≡ false
  cube_meet-none = Belonging.cube_meet-no w a b

  pub cube_meet-written : (room : ℕ) → (cube_meet w a b room).answer.number ≡ 0
      → WrittenCube w (meet (read_cube w a) (read_cube w b)) (cube_meet w a b room).bytes
  cube_meet-written = Rewriting.cube_meet-written w a b

-- CUBE_IN: whether the first lies in the second (FORMAT 68)
pub cube_in-promise : Promise cube_in-call.Kinds.ps cube_in-call.Kinds.r cube_in-call.Reads.Asked cube_in-call.Reads.Learnt
    (λ κs (w, (a, (b, _))) x e. x ≡ (cube_in w a.now b.now).answer)
cube_in-promise = record { anything = λ κs a. tt; permits = λ κs a x e l. l }

module _ (w : ℕ) (a b : List ℕ) where
  pub cube_in-agrees : OneResult (cube_in w a b).answer
  cube_in-agrees = same-result _

  pub cube_in-answered : Tells (Cubes w a b) (yes_no (within (read_cube w a) (read_cube w b))) (cube_in w a b)
  unfolding cube_in outcome
  cube_in-answered = yes-no _ (cubes-tell w a b _)

  pub cube_in-kept : Kept 0 (cube_in w a b)
  unfolding cube_in
  cube_in-kept = kept 0 _ (omega arith) (omega arith)

  pub cube_in-yes : (cube_in w a b).answer.number ≡ 1 → Inside w a b
  cube_in-yes = Belonging.cube_in-yes w a b

  pub cube_in-no : (cube_in w a b).answer.number ≡ 2 → Outside w a b
  cube_in-no = Belonging.cube_in-no w a b

-- WIDER_NUMBER: the number of the wider cube, as a question of its own (FORMAT 92)
pub wider_number-promise : Promise wider_number-call.Kinds.ps wider_number-call.Kinds.r wider_number-call.Reads.Asked wider_number-call.Reads.Learnt
    (λ κs (w, (a, (b, _))) x e. x ≡ (wider_number w a.now b.now).answer)
wider_number-promise = record { anything = λ κs a. tt; permits = λ κs a x e l. l }

module _ (w : ℕ) (a b : List ℕ) where
  pub wider_number-agrees : OneResult (wider_number w a b).answer
  wider_number-agrees = same-result _

  pub wider_number-answered :
      Tells (Cubes w a b) (yes_no (within (read_cube w b) (read_cube w a) || within (read_cube w a) (read_cube w b))) (wider_number w a b)
  unfolding wider_number outcome
  wider_number-answered = yes-no _ (cubes-tell w a b _)

  pub wider_number-kept : Kept 0 (wider_number w a b)
  unfolding wider_number
  wider_number-kept = kept 0 _ (omega arith) (omega arith)

  pub wider_number-yes : (wider_number w a b).answer.number ≡ 1 → Inside w b a ⊎ Inside w a b
  wider_number-yes = Belonging.wider_number-yes w a b

  pub wider_number-no : (wider_number w a b).answer.number ≡ 2 → Outside w b a × Outside w a b
  wider_number-no = Belonging.wider_number-no w a b

-- WIDER: the very bytes of the wider cube, or none (FORMAT 89, 90)
pub wider-promise : Promise wider-call.Kinds.ps wider-call.Kinds.r wider-call.Reads.Asked wider-call.Reads.Learnt
    (λ κs (w, (a, (b, _))) x e. WiderIs w a b x)
wider-promise = record { anything = λ κs a. tt; permits = λ κs a x e l. l }

pub wider-agrees : (w : ℕ) (a b r r' : Bor (List ℕ)) → WiderIs w a b r → WiderIs w a b r' → SameStretch r r'
wider-agrees w a b r r' p q = go (wider w a.now b.now) refl
  where
    go : (x : Which) → wider w a.now b.now ≡ x → SameStretch r r'
    go first e = let z = p.first e ∙ sym (q.first e) in (ap (λ x. x.now) z, ap (λ x. x.ref_ptr) z)
    go second e = let z = p.second e ∙ sym (q.second e) in (ap (λ x. x.now) z, ap (λ x. x.ref_ptr) z)
    go neither e = let (bytes, place) = p.neither e in let (bytes', place') = q.neither e in (bytes ∙ sym bytes', place ∙ sym place')

which : (x y : Bool) → outcome (row (so x) first (row (so y) second (last neither))) ≡ cond x first (cond y second neither)
unfolding outcome passes
which x y = refl

some-held : (x y : Bool) → cond x first (cond y second neither) ≡ neither → (yes_no (x || y)).answer.number ≡ 1 → ⊥
some-held true y e n = let z : ◌≡◌ {A = ℕ} 0 1 = cc in omega arith
some-held false true e n = let z : ◌≡◌ {A = ℕ} 0 1 = cc in omega arith
some-held false false e n = omega arith

module _ (w : ℕ) (a b : List ℕ) where
  pub wider-means : Cubes w a b
      → wider w a b ≡ cond (within (read_cube w b) (read_cube w a)) first (cond (within (read_cube w a) (read_cube w b)) second neither)
  unfolding wider
  wider-means c = sym (skipped 4 _ (omega arith)) ∙ which _ _

  pub wider-first : wider w a b ≡ first → Inside w b a
  wider-first = Belonging.wider-first w a b

  pub wider-second : wider w a b ≡ second → Inside w a b
  wider-second = Belonging.wider-second w a b

  held-yes : Cubes w a b → within (read_cube w b) (read_cube w a) || within (read_cube w a) (read_cube w b) ≡ true → (wider_number w a b).answer.number ≡ 1
  held-yes c e = rw ((wider_number-answered w a b).told c, e)

  pub wider-neither : (wider w a b ≡ neither) ↔ ((wider_number w a b).answer.number ≡ 1 → ⊥)
  unfolding wider
  wider-neither = (
    λ e n.
        let c = (wider_number-answered w a b).accepted (omega arith) in
        some-held (within (read_cube w b) (read_cube w a)) (within (read_cube w a) (read_cube w b)) (sym (wider-means c) ∙ e)
        (rw ((wider_number-answered w a b).told c) at n),
    λ f.
        each (λ v. v ≡ neither) _ (
          λ h. refl,
          λ some. (
            λ h. refl,
            λ narrow. (
              λ h. refl,
              λ p. (
                λ h. refl,
                λ q.
                    let c : Cubes w a b = record { some = omega arith; narrow = narrow; first = p; second = q } in
                    (λ t. absurd (f (held-yes c (rw t))), λ u. (λ t. absurd (f (held-yes c (rw (u, t)))), λ v. refl)),
              ),
            ),
          ),
        ),
  )
