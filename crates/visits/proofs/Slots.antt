-- Walks that are remembered.
--   code-or               the codes of `|`
--   alike-below           pieces that meet the same cuts, and are alike where one of those fixes a value, are alike
--   remembers-right       a slot that is made of a walk in which nothing survives
--   recalls-right         a slot is used
--   memory-fresh          empty slots
--   common-turn, common-end    what cuts have in common: one cut more, and no cut left
--   keeps-right           a slot is made, and kept
--   look-turn             the words of a piece and of a slot are compared: one word more
use Prim.Native.Nat.{ℕ, zero, suc, ◌+◌, ◌-◌, ◌/◌, ◌%◌, ◌^◌, ◌≤◌, ◌<◌}
use native.Mathlib.Nat.{mod-lt, div-eq_of_lt}
use native.Mathlib.Omega.{arith}
use mathlib.Core.Path.{◌≡◌, refl, sym, ap, ap₂, ◌∙◌}
use mathlib.Core.Bool.{Bool, true, false, ◌&&◌, false≢true}
use mathlib.Core.Logic.{◌⊎◌, inl, inr, ⊎_elim}
use mathlib.Core.List.{List, [], ◌∷◌}
use lib.Dec.{lit<}
use lib.ListN.{length, get_or, set, replicate}
use lib.Count.{leading_length}
use lib.Pow.{pow_pos, pow_mono}
use lib.Bits.{bit_and, bit_or, bit_xor}
use Rattle.model.specs.Cube.{Code, none, v0, v1, free, Cube, meet_code, coded, shares}
use Rattle.model.specs.Walk.{opens, visit}
use Rattle.model.specs.Alike.{opens_all, Alike}
use Rattle.model.proofs.Bools.{and_left, and_right}
use Rattle.model.proofs.Alike.{walk-alike}
use Rattle.format.specs.Bytes.{code_of, is_free}
use Rattle.visits.specs.Opening.{bit, is_fixed}
use Rattle.visits.specs.Words.{place_at, number_in, code_in, cube_of_words, row_cube, cuts_below, either_code}
use Rattle.visits.specs.Alive.{digit, Alive}
use Rattle.visits.specs.Memory.{Finds, LikeSlot, LikeWords, Remembers, Memory, Recalls, Keeps, Lies, Common, SlotOf}
use Rattle.visits.specs.declared.memory.Slot.{Slot}
use Rattle.std.specs.Prelude.{Some, None}
use Rattle.std.proofs.lemmas.List.Elements.{All-get_or, All-set, All-replicate}
use Rattle.std.proofs.lemmas.Option.{none-some}
use Rattle.visits.proofs.Digits.{same_or_not, below_or, or-none, xor-none, place-and, place-or, digit-below}
use Rattle.visits.proofs.Openings.{for-some}
use Rattle.visits.specs.Places.{words-length, words-at}
use Rattle.visits.proofs.WordCubes.{row-length}
use Rattle.visits.proofs.Meeting.{alive-passed, pow-double}
use Rattle.cube.proofs.Codes.{below4, four-and}

pub code-or : (a b : ℕ) → a < 4 → b < 4 → code_of (bit_or a b) ≡ either_code (code_of a) (code_of b)
code-or a b h k =
    below4 (λ (a : ℕ). code_of (bit_or a b) ≡ either_code (code_of a) (code_of b)) refl
    (below4 (λ (b : ℕ). code_of (bit_or 1 b) ≡ either_code v0 (code_of b)) refl refl refl refl b k)
    (below4 (λ (b : ℕ). code_of (bit_or 2 b) ≡ either_code v1 (code_of b)) refl refl refl refl b k)
    (below4 (λ (b : ℕ). code_of (bit_or 3 b) ≡ either_code free (code_of b)) refl refl refl refl b k) a h

-- the code x of a piece is free or the cut's value y, and n lies in y: then whether x is free is seen in what x or n admits
open-either : (x y n : Code) → coded (meet_code x y) ≡ true → meet_code n y ≡ n → opens x y ≡ is_fixed y && is_free (either_code x n)
open-either none none n c e = refl
open-either v0 none n c e = refl
open-either v1 none n c e = refl
open-either free none n c e = refl
open-either none free n c e = refl
open-either v0 free n c e = refl
open-either v1 free n c e = refl
open-either free free n c e = refl
open-either none v0 n c e = absurd (false≢true c)
open-either none v1 n c e = absurd (false≢true c)
open-either v1 v0 n c e = absurd (false≢true c)
open-either v0 v1 n c e = absurd (false≢true c)
open-either free v0 n c e = refl
open-either free v1 n c e = refl
open-either v0 v0 none c e = refl
open-either v0 v0 v0 c e = refl
open-either v0 v0 v1 c e = absurd (false≢true (ap coded e))
open-either v0 v0 free c e = let z = ap is_free e in absurd (false≢true z)
open-either v1 v1 none c e = refl
open-either v1 v1 v0 c e = absurd (false≢true (ap coded e))
open-either v1 v1 v1 c e = refl
open-either v1 v1 free c e = let z = ap is_free e in absurd (false≢true z)

shares_at : (p c : Cube) (i : ℕ) → shares p c ≡ true → i < length p → coded (meet_code (get_or p i none) (get_or c i none)) ≡ true
shares_at [] c i e h = absurd (omega arith)
shares_at (x ∷ p) [] i e h = absurd (false≢true e)
shares_at (x ∷ p) (y ∷ c) zero e h = and_left (coded (meet_code x y)) (shares p c) e
shares_at (x ∷ p) (y ∷ c) (suc i) e h = shares_at p c i (and_right (coded (meet_code x y)) (shares p c) e) (omega arith)

opens-ext : (p q c : Cube) → length p ≡ length c → length q ≡ length c
    → ((i : ℕ) → i < length c → opens (get_or p i none) (get_or c i none) ≡ opens (get_or q i none) (get_or c i none)) → opens_all p c ≡ opens_all q c
opens-ext [] [] c e f t = refl
opens-ext [] (y ∷ q) c e f t = absurd (omega arith)
opens-ext (x ∷ p) [] c e f t = absurd (omega arith)
opens-ext (x ∷ p) (y ∷ q) [] e f t = absurd (omega arith)
opens-ext (x ∷ p) (y ∷ q) (z ∷ c) e f t = ap₂ (λ (b : Bool) (bs : List Bool). b ∷ bs) (t 0 (omega arith))
    (opens-ext p q c (omega arith) (omega arith) (λ i h. t (suc i) (omega arith)))

module _ (cuts : List (List ℕ)) (p q : Cube) (n : ℕ → Code) (lp : length p ≡ 320) (lq : length q ≡ 320)
    (like : (i : ℕ) → i < 320 → either_code (get_or p i none) (n i) ≡ either_code (get_or q i none) (n i)) where
  opens-like : (c : Cube) → length c ≡ 320 → shares p c ≡ true → shares q c ≡ true
      → ((i : ℕ) → i < 320 → meet_code (n i) (get_or c i none) ≡ n i) → opens_all p c ≡ opens_all q c
  opens-like c lc e f u =
      opens-ext p q c (omega arith) (omega arith)
      (λ i h.
      let k : i < 320 = omega arith in
      open-either (get_or p i none) (get_or c i none) (n i) (shares_at p c i e (omega arith)) (u i k)
      ∙ rw (like i k) (sym (open-either (get_or q i none) (get_or c i none) (n i) (shares_at q c i f (omega arith)) (u i k))))

  pub alike-below : (t : ℕ) → ((j : ℕ) → j < t → shares p (row_cube cuts j) ≡ shares q (row_cube cuts j))
      → ((j : ℕ) → j < t → shares p (row_cube cuts j) ≡ true → (i : ℕ) → i < 320 → meet_code (n i) (get_or (row_cube cuts j) i none) ≡ n i)
      → Alike (cuts_below cuts t) p q
  unfolding cuts_below
  alike-below zero s u = tt
  alike-below (suc t) s u = (
    s t (omega arith),
    λ e. opens-like (row_cube cuts t) (row-length cuts t) e (sym (s t (omega arith)) ∙ e) (u t (omega arith) e),
    alike-below t (λ j h. s j (omega arith)) (λ j h. u j (omega arith)),
  )

finds-alike : (cs : List Cube) (p q : Cube) (k : ℕ) → Alike cs p q → Finds k (visit cs q) → Finds k (visit cs p)
finds-alike cs p q k a f = let t = walk-alike cs p q a in (t.0 ∙ f.0, t.2 f.1)

bit-same : (a b : Bool) → bit a ≡ bit b → a ≡ b
bit-same true true e = refl
bit-same true false e = absurd (omega arith)
bit-same false true e = absurd (omega arith)
bit-same false false e = refl

bit-of : (a : Bool) → a ≡ true → bit a ≡ 1
bit-of a e = rw e

-- as many cuts as the digits take
record Length (x t : ℕ) : Type 0 where
  under : x < 2 ^ t
  fewest : (n : ℕ) → x < 2 ^ n → t ≤ n

length-of : (x : ℕ) → x < 2 ^ 64 → (t : ℕ) × Length x t
length-of x h =
    let l = leading_length 64 x h in (
      l.0,
      record {
        under = l.2;
        fewest = λ (n : ℕ) (k : x < 2 ^ n). ⊎_elim (λ (s : n < l.0). absurd (omega (arith, pow_mono s, l.3, pow-double n))) (λ s. s) (below_or n l.0);
      },
    )

module _ (cuts : List (List ℕ)) (slot : Slot) (ws : List ℕ) (alive count m : ℕ) (small : alive < 2 ^ 64) (ea : slot.alive ≡ alive) (ec : slot.count ≡ Some count)
    (own : (i : ℕ) → i < 320 → code_in slot.cube i ≡ either_code (code_in ws i) (code_in slot.common i))
    (low : (j : ℕ) → j < 64 → digit j alive ≡ 1 → (i : ℕ) → i < 320 → meet_code (code_in slot.common i) (get_or (row_cube cuts j) i none) ≡ code_in
    slot.common i)
    (met : Alive cuts m (cube_of_words ws) alive) (found : Finds count (visit (cuts_below cuts m) (cube_of_words ws))) where
  like-finds : (n : ℕ) (p : Cube) → length p ≡ 320 → Alive cuts n p slot.alive → LikeSlot slot p → Finds count (visit (cuts_below cuts n) p)
  like-finds n p lp a f =
      let l = length-of alive small in
      let t = l.0 in
      let b = rw ea at a in
      let tn = l.1.fewest n b.0 in
      let tm = l.1.fewest m met.0 in
      let ts = l.1.fewest 64 small in
      let like = alike-below cuts p (cube_of_words ws) (λ i. code_in slot.common i) lp (words-length ws) (λ i h. f i h ∙ own i h ∙ rw (words-at ws i h)) t
      (λ j h. bit-same (shares p (row_cube cuts j)) (shares (cube_of_words ws) (row_cube cuts j)) (sym (b.1 j (omega arith)) ∙ met.1 j (omega arith)))
      (λ j h e. low j (omega arith) (b.1 j (omega arith) ∙ bit-of (shares p (row_cube cuts j)) e)) in
      rw (alive-passed cuts n t p alive b l.1.under tn)
      (finds-alike (cuts_below cuts t) p (cube_of_words ws) count like (rw (alive-passed cuts m t (cube_of_words ws) alive met l.1.under tm) at found))

  pub remembers-right : Remembers cuts slot
  unfolding Remembers
  remembers-right = rw ec (for-some _ count like-finds)

-- words
either-words : (x y z k : ℕ) → bit_or x y ≡ z → either_code (code_of (place_at x k)) (code_of (place_at y k)) ≡ code_of (place_at z k)
either-words x y z k e = rw (← e) (sym (ap code_of (place-or k x y) ∙ code-or (place_at x k) (place_at y k) (mod-lt _ (lit< tt)) (mod-lt _ (lit< tt))))

like-words : (slot : Slot) (ws : List ℕ) → LikeWords slot ws → LikeSlot slot (cube_of_words ws)
unfolding number_in
like-words slot ws h i l =
    rw (words-at ws i l) (either-words (get_or ws (i / 32) 0) (get_or slot.common (i / 32) 0) (get_or slot.cube (i / 32) 0) (i % 32) (h (i / 32) (omega arith)))

pub recalls-right : (slots : List Slot) (ws : List ℕ) (e : ℕ) (slot : Slot) → e < length slots → get_or slots e slot ≡ slot → LikeWords slot ws
    → Recalls slots ws slot.alive slot.count
unfolding Remembers
recalls-right slots ws e slot h es f k ek cuts mem n a =
    (rw es at (All-get_or (Remembers cuts) slots e slot h mem)) k ek n (cube_of_words ws) (words-length ws) a (like-words slot ws f)

-- empty slots
pub memory-fresh : (cuts : List (List ℕ)) (n : ℕ) (slot : Slot) → slot.count ≡ None → Memory cuts (replicate n slot)
unfolding Remembers
memory-fresh cuts n slot e = All-replicate (Remembers cuts) n slot (λ k z. absurd (none-some k (sym e ∙ z)))

-- words that lie in cuts
within-again : (a y : Code) → meet_code (meet_code a y) y ≡ meet_code a y
within-again none y = refl
within-again v0 none = refl
within-again v0 v0 = refl
within-again v0 v1 = refl
within-again v0 free = refl
within-again v1 none = refl
within-again v1 v0 = refl
within-again v1 v1 = refl
within-again v1 free = refl
within-again free none = refl
within-again free v0 = refl
within-again free v1 = refl
within-again free free = refl

meet-swap : (a c y : Code) → meet_code (meet_code a c) y ≡ meet_code (meet_code a y) c
meet-swap none c y = refl
meet-swap v0 none none = refl
meet-swap v0 none v0 = refl
meet-swap v0 none v1 = refl
meet-swap v0 none free = refl
meet-swap v0 v0 none = refl
meet-swap v0 v0 v0 = refl
meet-swap v0 v0 v1 = refl
meet-swap v0 v0 free = refl
meet-swap v0 v1 none = refl
meet-swap v0 v1 v0 = refl
meet-swap v0 v1 v1 = refl
meet-swap v0 v1 free = refl
meet-swap v0 free none = refl
meet-swap v0 free v0 = refl
meet-swap v0 free v1 = refl
meet-swap v0 free free = refl
meet-swap v1 none none = refl
meet-swap v1 none v0 = refl
meet-swap v1 none v1 = refl
meet-swap v1 none free = refl
meet-swap v1 v0 none = refl
meet-swap v1 v0 v0 = refl
meet-swap v1 v0 v1 = refl
meet-swap v1 v0 free = refl
meet-swap v1 v1 none = refl
meet-swap v1 v1 v0 = refl
meet-swap v1 v1 v1 = refl
meet-swap v1 v1 free = refl
meet-swap v1 free none = refl
meet-swap v1 free v0 = refl
meet-swap v1 free v1 = refl
meet-swap v1 free free = refl
meet-swap free none none = refl
meet-swap free none v0 = refl
meet-swap free none v1 = refl
meet-swap free none free = refl
meet-swap free v0 none = refl
meet-swap free v0 v0 = refl
meet-swap free v0 v1 = refl
meet-swap free v0 free = refl
meet-swap free v1 none = refl
meet-swap free v1 v0 = refl
meet-swap free v1 v1 = refl
meet-swap free v1 free = refl
meet-swap free free none = refl
meet-swap free free v0 = refl
meet-swap free free v1 = refl
meet-swap free free free = refl

module _ (m m' b : List ℕ) (e : (w : ℕ) → w < 10 → get_or m' w 0 ≡ bit_and (get_or m w 0) (get_or b w 0)) where
  met-code : (i : ℕ) → i < 320 → code_in m' i ≡ meet_code (code_in m i) (code_in b i)
  unfolding number_in
  met-code i h =
      rw (e (i / 32) (omega arith), place-and (i % 32) (get_or m (i / 32) 0) (get_or b (i / 32) 0))
      (four-and (place_at (get_or m (i / 32) 0) (i % 32)) (place_at (get_or b (i / 32) 0) (i % 32)) (mod-lt _ (lit< tt)) (mod-lt _ (lit< tt)))

  lies_more : (c : Cube) → Lies m c → Lies m' c
  lies_more c l i h = rw (met-code i h) (meet-swap (code_in m i) (code_in b i) (get_or c i none) ∙ rw (l i h))

  lies_in : Lies m' (cube_of_words b)
  lies_in i h = rw (met-code i h, words-at b i h) (within-again (code_in m i) (code_in b i))

pub common-turn : (cuts : List (List ℕ)) (alive x y t : ℕ) (m m' : List ℕ) → x < 2 ^ suc t → 2 ^ t ≤ x → y ≡ x - 2 ^ t
    → ((w : ℕ) → w < 10 → get_or m' w 0 ≡ bit_and (get_or m w 0) (get_or (get_or cuts t []) w 0))
    → ((j : ℕ) → j < 64 → digit j alive ≡ 1 → (digit j x ≡ 1) ⊎ Lies m (row_cube cuts j)) → (j : ℕ) → j < 64 → digit j alive ≡ 1
    → (digit j y ≡ 1) ⊎ Lies m' (row_cube cuts j)
unfolding row_cube
common-turn cuts alive x y t m m' u o ey e f j h d =
    ⊎_elim (λ (k : digit j x ≡ 1). still k) (λ l. inr (lies_more m m' (get_or cuts t []) e (row_cube cuts j) l)) (f j h d)
  where
    here : digit j x ≡ 1 → j ≡ t → (digit j y ≡ 1) ⊎ Lies m' (row_cube cuts j)
    here k q = inr (rw q (lies_in m m' (get_or cuts t []) e))

    still : digit j x ≡ 1 → (digit j y ≡ 1) ⊎ Lies m' (row_cube cuts j)
    still k =
        ⊎_elim (here k)
        (λ (q : j ≡ t → ⊥).
        ⊎_elim (λ (b : j < t). let ex : x ≡ 2 ^ t + y = omega arith in inl (sym (digit-below j t y b) ∙ rw (← ex) k))
        (λ (b : t ≤ j). let c : suc t ≤ j = omega arith in let z : x < 2 ^ j = omega (arith, pow_mono c) in absurd (omega (arith, (rw (div-eq_of_lt z) at k))))
        (below_or j t))
        (same_or_not j t)

pub common-end : (cuts : List (List ℕ)) (alive x : ℕ) (m : List ℕ) → x ≡ 0
    → ((j : ℕ) → j < 64 → digit j alive ≡ 1 → (digit j x ≡ 1) ⊎ Lies m (row_cube cuts j))
    → Common cuts alive m
common-end cuts alive x m z f j h d =
    ⊎_elim (λ (k : digit j x ≡ 1). absurd (omega (arith, (rw (z, div-eq_of_lt (pow_pos j)) at k)))) (λ l. l) (f j h d)

-- a slot is made
pub keeps-right : (cuts : List (List ℕ)) (slots : List Slot) (near m : List ℕ) (slot : Slot) (e alive count : ℕ) → alive < 2 ^ 64
    → Common cuts alive m → SlotOf near m alive count slot
    → Keeps cuts slots near alive count (set slots e slot)
unfolding number_in
keeps-right cuts slots near m slot e alive count small low s mem n met found =
    All-set (Remembers cuts) slots e slot
    (remembers-right cuts slot near alive count n small s.meets s.pieces
    (λ i h. rw s.shared (sym (either-words (get_or near (i / 32) 0) (get_or m (i / 32) 0) (get_or slot.cube (i / 32) 0) (i % 32)
    (sym (s.own (i / 32) (omega arith))))))
    (λ j h d i k. rw s.shared (low j h d i k)) met found) mem

-- the words of a piece and of a slot are compared
pub look-turn : (slot : Slot) (near : List ℕ) (w d : ℕ)
    → (d ≡ 0 → (v : ℕ) → v < w → bit_or (get_or near v 0) (get_or slot.common v 0) ≡ get_or slot.cube v 0)
    → bit_or d (bit_xor (bit_or (get_or near w 0) (get_or slot.common w 0)) (get_or slot.cube w 0)) ≡ 0 → (v : ℕ) → v < w + 1 → bit_or
    (get_or near v 0) (get_or slot.common v 0) ≡ get_or slot.cube v 0
look-turn slot near w d f z v h =
    let o = or-none d (bit_xor (bit_or (get_or near w 0) (get_or slot.common w 0)) (get_or slot.cube w 0)) z in
    ⊎_elim (λ (q : v ≡ w). rw q (xor-none (bit_or (get_or near w 0) (get_or slot.common w 0)) (get_or slot.cube w 0) o.1))
    (λ (q : v ≡ w → ⊥). f o.0 v (omega arith)) (same_or_not v w)
