-- One turn of a visit over words: the first position that the cut opens takes a value.
--   Opens x y             == x is the number of the code `free`, and y that of a value
--   open-inside           that position is one of the 320
--   Opened, opened        what is known of it
--   took-cube, took-alive   the piece with a value there, and the cuts that it meets
--   child-alive, agreed-alive   the cuts that the child meets, and those that the piece that goes on does
--   child-stops, child-covered   what the child says is the answer, or the piece goes on
--   none-opens            no position opens: the piece is covered
--   later_first           where the position takes the cut's value, the next is a later one
--   begun                 how the visit begins
--   survives-stops        a piece that no cut meets ends the walk
--   tells-covered         what a covered reply says
--   Told                  what is told of the walk of a piece, and the slots then
--   told-known, told-visited   it is so where the walk was known, and where the piece is visited
--   told-stops            where it is not covered, that is the answer
--   told-sum, told-count  the pieces left and spent make the same sum; how many pieces a covered walk has
use Prim.Native.Nat.{ℕ, zero, suc, ◌+◌, ◌-◌, ◌*◌, ◌/◌, ◌%◌, ◌^◌, ◌≤◌, ◌<◌}
use native.Mathlib.Nat.{mod-lt}
use native.Mathlib.Omega.{arith}
use mathlib.Core.Path.{◌≡◌, refl, sym, ap, ◌∙◌}
use mathlib.Core.Bool.{true, false≢true}
use mathlib.Core.Logic.{◌⊎◌, inl, inr, ⊎_elim}
use mathlib.Core.List.{List, []}
use lib.Dec.{lit<}
use lib.ListN.{length, get_or, set}
use lib.Bits.{bit_and, bit_xor}
use Rattle.model.specs.Cube.{none, v0, v1, free, Cube, shares}
use Rattle.model.specs.Walk.{Found, opens, other, visit}
use Rattle.format.specs.Bytes.{code_of}
use Rattle.visits.specs.Opening.{first_open, FirstOpen}
use Rattle.std.specs.Prelude.{Option, Some, None}
use Rattle.visits.specs.Settle.{Said, after, settle, left_from}
use Rattle.visits.specs.Words.{place_at, number_in, code_in, cube_of_words, row_cube, cuts_below, GivenWord}
use Rattle.visits.specs.Alive.{Alive, Against}
use Rattle.visits.specs.Memory.{Finds, Memory}
use Rattle.visits.specs.Replies.{tells, survives, Pays}
use Rattle.visits.specs.declared.memory.Slot.{Slot}
use Rattle.visits.specs.declared.allowance.Allowance.{Allowance}
use Rattle.visits.specs.declared.allowance.Verdict.TheVariants.{Covered, Survives, Undecided}
use Rattle.visits.specs.declared.allowance.Outcome.{Outcome}
use Rattle.visits.proofs.Openings.{first-opens, first-after}
use Rattle.visits.specs.Places.{words-length, words-at}
use Rattle.visits.proofs.WordCubes.{words-given}
use Rattle.visits.proofs.Turn.{turn_end, turn-covered, turn-stop}
use Rattle.visits.proofs.Settle.{settle-on, settle-le, settle-lt, settle-keeps}
use Rattle.visits.proofs.Paying.{covered-finds}
use Rattle.visits.proofs.Digits.{below_or}
use Rattle.visits.proofs.Meeting.{alive-child, alive-passed, alive-top, rows-met}
use Rattle.cube.proofs.Codes.{below4}

pub record Opens (x y : ℕ) : Type 0 where
  pub three : x ≡ 3
  pub least : 1 ≤ y
  pub most : y ≤ 2

opens-numbers : (x y : ℕ) → x < 4 → y < 4 → opens (code_of x) (code_of y) ≡ true → Opens x y
opens-numbers x y h k e =
    below4 (λ (x : ℕ). opens (code_of x) (code_of y) ≡ true → Opens x y) (λ e. absurd (false≢true e)) (λ e. absurd (false≢true e)) (λ e. absurd (false≢true e))
    (below4 (λ (y : ℕ). opens free (code_of y) ≡ true → Opens 3 y) (λ e. absurd (false≢true e))
    (λ e. record { three = refl; least = omega arith; most = omega arith })
    (λ e. record { three = refl; least = omega arith; most = omega arith }) (λ e. absurd (false≢true e)) y k) x h e

other-number : (y : ℕ) → 1 ≤ y → y ≤ 2 → code_of (3 - y) ≡ other (code_of y)
other-number zero h k = absurd (omega arith)
other-number (suc zero) h k = refl
other-number (suc (suc zero)) h k = refl
other-number (suc (suc (suc y))) h k = absurd (omega arith)

value-number : (y : ℕ) → 1 ≤ y → y ≤ 2 → (code_of y ≡ v0) ⊎ (code_of y ≡ v1)
value-number zero h k = absurd (omega arith)
value-number (suc zero) h k = inl refl
value-number (suc (suc zero)) h k = inr refl
value-number (suc (suc (suc y))) h k = absurd (omega arith)

pub open-inside : (near cut : List ℕ) (r : Option ℕ) (i : ℕ) → FirstOpen (cube_of_words near) (cube_of_words cut) r → r ≡ Some i → i < 320
open-inside near cut r i s e = omega (arith, (s.found i e).1, words-length near)

pub record Opened (near cut : List ℕ) (i y : ℕ) : Type 0 where
  pub inside : i < 320
  pub first : i ≡ first_open (cube_of_words near) (cube_of_words cut)
  pub place : place_at (get_or near (i / 32) 0) (i % 32) ≡ 3
  pub unfixed : get_or (cube_of_words near) i none ≡ free
  pub least : 1 ≤ y
  pub most : y ≤ 2
  pub fixed : code_of y ≡ get_or (cube_of_words cut) i none
  pub turned : code_of (3 - y) ≡ other (code_of y)

pub opened : (near cut : List ℕ) (r : Option ℕ) (i y : ℕ) → FirstOpen (cube_of_words near) (cube_of_words cut) r → r ≡ Some i → y ≡ number_in cut i
    → Opened near cut i y
unfolding number_in
opened near cut r i y s is e =
    let g = s.found i is in
    let f = g.0 in
    let h = open-inside near cut r i s is in
    let o = first-opens (cube_of_words near) (cube_of_words cut) (words-length near ∙ sym (words-length cut)) (omega (arith, f, g.1)) in
    let b : opens (code_in near i) (code_in cut i) ≡ true = rw (← f, words-at near i h, words-at cut i h) at o in
    let n = opens-numbers (number_in near i) (number_in cut i) (mod-lt _ (lit< tt)) (mod-lt _ (lit< tt)) b in
    record {
      inside = h;
      first = f;
      place = n.three;
      unfixed = words-at near i h ∙ ap code_of n.three;
      least = omega (arith, n.least);
      most = omega (arith, n.most);
      fixed = rw e (sym (words-at cut i h));
      turned = other-number y (omega (arith, n.least)) (omega (arith, n.most));
    }

-- the position takes the value v
module _ (near : List ℕ) (i v word : ℕ) (l : length near ≡ 10) (h : i < 320) (g : GivenWord (get_or near (i / 32) 0) (i % 32) v word) where
  pub took-cube : cube_of_words (set near (i / 32) word) ≡ set (cube_of_words near) i (code_of v)
  took-cube = words-given near i v word l h g

  pub took-alive : (cuts : List (List ℕ)) (n : ℕ) (against : List ℕ) (met r : ℕ) → get_or (cube_of_words near) i none ≡ free → 1 ≤ v → v ≤ 2
      → Alive cuts n (cube_of_words near) met
      → Against cuts n against → r ≡ bit_xor met (bit_and met (get_or against (2 * i + (v - 1)) 0)) → Alive cuts n (cube_of_words (set near (i / 32) word)) r
  took-alive cuts n against met r o a b m t e =
      let s : suc (v - 1) ≡ v = omega arith in
      alive-child cuts n (cube_of_words near) (cube_of_words (set near (i / 32) word)) i (code_of v) met (get_or against (2 * i + (v - 1)) 0) r m
      (rw s at (t i (v - 1) h (omega arith))) (value-number v a b) o took-cube e

-- the child has the other value there, and the piece that goes on has the cut's
module _ (near cut : List ℕ) (i y : ℕ) (l : length near ≡ 10) (o : Opened near cut i y) where
  module _ (cuts : List (List ℕ)) (n : ℕ) (against : List ℕ) (met : ℕ) (m : Alive cuts n (cube_of_words near) met) (t : Against cuts n against) where
    pub child-alive : (word r : ℕ) → GivenWord (get_or near (i / 32) 0) (i % 32) (3 - y) word
        → r ≡ bit_xor met (bit_and met (get_or against (2 * i + (3 - y - 1)) 0))
        → Alive cuts n (cube_of_words (set near (i / 32) word)) r
    child-alive word r g = took-alive near i (3 - y) word l o.inside g cuts n against met r o.unfixed (omega (arith, o.most)) (omega (arith, o.least)) m t

    pub agreed-alive : (word r : ℕ) → GivenWord (get_or near (i / 32) 0) (i % 32) y word
        → r ≡ bit_xor met (bit_and met (get_or against (2 * i + (y - 1)) 0))
        → Alive cuts n (cube_of_words (set near (i / 32) word)) r
    agreed-alive word r g = took-alive near i y word l o.inside g cuts n against met r o.unfixed o.least o.most m t

  -- f visits the child, and v is what that visit says
  module _ (f : Cube → Found) (have : Allowance) (word : ℕ) (g : GivenWord (get_or near (i / 32) 0) (i % 32) (3 - y) word) (v : Said)
      (r : v ≡ settle have (f (cube_of_words (set near (i / 32) word)))) where
    even : length (cube_of_words near) ≡ length (cube_of_words cut)
    even = words-length near ∙ sym (words-length cut)

    pub child-stops : (v.verdict ≡ Covered → ⊥) → left_from f (cube_of_words cut) have (cube_of_words near) ≡ v
    child-stops =
        turn-stop f (cube_of_words cut) (cube_of_words near) have even i o.first (omega (arith, o.inside, words-length near)) (code_of y)
        (code_of (3 - y)) o.fixed o.turned
        (cube_of_words (set near (i / 32) word)) (took-cube near i (3 - y) word l o.inside g) v r

    pub child-covered : v.verdict ≡ Covered → (p : Cube) → p ≡ set (cube_of_words near) i (code_of y)
        → left_from f (cube_of_words cut) have (cube_of_words near) ≡ left_from f (cube_of_words cut) v.allowance p
    child-covered k p e =
        turn-covered f (cube_of_words cut) (cube_of_words near) have even i o.first (omega (arith, o.inside, words-length near)) (code_of y)
        (code_of (3 - y)) o.fixed o.turned
        (cube_of_words (set near (i / 32) word)) (took-cube near i (3 - y) word l o.inside g) v r k
        ∙ ap (left_from f (cube_of_words cut) v.allowance) (sym e)

-- no position opens
pub none-opens : (f : Cube → Found) (near cut : List ℕ) (r : Option ℕ) (have : Allowance) → FirstOpen (cube_of_words near) (cube_of_words cut) r
    → r ≡ None
    → left_from f (cube_of_words cut) have (cube_of_words near) ≡ record { allowance = have; verdict = Covered; piece = [] }
none-opens f near cut r have s e = turn_end f (cube_of_words cut) (cube_of_words near) have (words-length near ∙ sym (words-length cut)) (s.none_left e)

-- the position takes the cut's value: the next one that opens is a later one
pub later_first : (near cut : List ℕ) (i y : ℕ) (p : Cube) → Opened near cut i y → p ≡ set (cube_of_words near) i (code_of y)
    → i < first_open p (cube_of_words cut)
later_first near cut i y p o c =
    rw (c, o.fixed)
    (rw (← o.first) at (first-after (cube_of_words near) (cube_of_words cut) (words-length near ∙ sym (words-length cut))
    (omega (arith, words-length near, o.first, o.inside))))

pub begun : (cuts : List (List ℕ)) (n : ℕ) (p : Cube) (a b : Allowance) → 0 < a.left → b ≡ after a 1 → shares p (row_cube cuts n) ≡ true
    → settle a (visit (cuts_below cuts (suc n)) p) ≡ left_from (visit (cuts_below cuts n)) (cube_of_words (get_or cuts n [])) b p
unfolding left_from row_cube
begun cuts n p a b h e m = rw (rows-met cuts n p m, e) (settle-on a 1 _ h)

pub survives-stops : (a : Allowance) (p : Cube) → (settle a (survives p)).verdict ≡ Covered → ⊥
survives-stops a p e =
    ⊎_elim (λ (k : a.left < 1). let q : Undecided ≡ Covered = rw (settle-lt a (survives p) k) at e in let z : ◌≡◌ {A = ℕ} 0 1 = cc in omega arith)
    (λ (k : 1 ≤ a.left). let q : Survives ≡ Covered = rw (settle-le a (survives p) k) at e in let z : ◌≡◌ {A = ℕ} 0 1 = cc in omega arith) (below_or a.left 1)

pub tells-covered : (r : Outcome (List ℕ)) → r.verdict ≡ Covered → tells r ≡ record { allowance = r.allowance; verdict = Covered; piece = [] }
tells-covered r e = rw e

-- what is told of the walk of the piece p, which the cuts below n are left of
pub record Told (cuts : List (List ℕ)) (n : ℕ) (have : Allowance) (p : Cube) (r : Outcome (List ℕ)) (slots : List Slot) : Type 0 where
  pub said : tells r ≡ settle have (visit (cuts_below cuts n) p)
  pub memory : Memory cuts slots

module _ (cuts : List (List ℕ)) (n : ℕ) (have : Allowance) (p : Cube) (alive : ℕ) (a : Alive cuts n p alive) (r s : Outcome (List ℕ)) (e : r ≡ s) (slots after : List Slot) (k : slots ≡ after) (m : Memory cuts after) where
  pub told-known : (count : ℕ) → Finds count (visit (cuts_below cuts n) p) → Pays count have s → Told cuts n have p r slots
  told-known count f t = record { said = rw e (t (visit (cuts_below cuts n) p) f); memory = rw k m }

  pub told-visited : (top : ℕ) → (top < 64) × (alive < 2 ^ suc top) × (2 ^ top ≤ alive)
      → tells s ≡ settle have (visit (cuts_below cuts (suc top)) p) → Told cuts n have p r slots
  told-visited top h t =
      record { said = rw e (t ∙ ap (settle have) (sym (alive-passed cuts n (suc top) p alive a h.1 (alive-top n top alive a.0 h.2)))); memory = rw k m }

module _ (cuts : List (List ℕ)) (n : ℕ) (have : Allowance) (p : Cube) (r : Outcome (List ℕ)) (slots : List Slot) (t : Told cuts n have p r slots) where
  pub told-sum : r.allowance.left + r.allowance.spent ≡ have.left + have.spent
  told-sum = settle-keeps have (visit (cuts_below cuts n) p) (tells r) t.said

  pub told-count : r.verdict ≡ Covered → (have.spent ≤ r.allowance.spent) × Finds (r.allowance.spent - have.spent) (visit (cuts_below cuts n) p)
  told-count c = covered-finds have r.allowance (visit (cuts_below cuts n) p) (sym t.said ∙ tells-covered r c)

  pub told-stops : (near cut : List ℕ) (i y : ℕ) → length near ≡ 10 → Opened near cut i y → (word : ℕ)
      → GivenWord (get_or near (i / 32) 0) (i % 32) (3 - y) word → p ≡ cube_of_words (set near (i / 32) word)
      → (r.verdict ≡ Covered → ⊥) → (left_from (visit (cuts_below cuts n)) (cube_of_words cut) have (cube_of_words near) ≡ tells r) × Memory cuts slots
  told-stops near cut i y l o word g e c = (
    child-stops near cut i y l o (visit (cuts_below cuts n)) have word g (tells r)
        (t.said ∙ ap (λ (q : Cube). settle have (visit (cuts_below cuts n) q)) e) c,
    t.memory,
  )
