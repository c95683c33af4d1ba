-- The cuts that a piece meets, as a word.
--   child-shares        a cut meets a child where it meets the piece and does not fix the position to another value
--   alive-child         the digits of a child are those of the piece less those against it
--   pow-double          2 ^ suc m is twice 2 ^ m
--   alive-top           the highest digit is that of one of the n cuts
--   alive-fewer         the digits below the highest one are those of the cuts after that one
--   alive-meets         the highest digit is that of a cut that the piece meets
--   rows-met, rows-passed   the next cut meets the piece, or shares no header with it
--   alive-passed        the cuts of more weight are passed over
--   alive-none          no digit: the piece survives
--   against-fewer       a table for n cuts is one for fewer
use Prim.Native.Nat.{ℕ, zero, suc, ◌+◌, ◌-◌, ◌^◌, ◌≤◌, ◌<◌}
use native.Mathlib.Nat.{div-eq_of_lt, pow-suc}
use native.Mathlib.Omega.{arith}
use mathlib.Core.Path.{◌≡◌, refl, sym, ◌∙◌}
use mathlib.Core.Bool.{Bool, true, false, not, ◌&&◌, true≢false}
use mathlib.Core.Logic.{◌⊎◌, ⊎_elim}
use mathlib.Core.List.{List, [], ◌∷◌}
use lib.ListN.{get_or, set}
use lib.Pow.{pow_mono}
use lib.Bits.{bit_and, bit_xor, xor_lt, and_le_l}
use Rattle.model.specs.Cube.{Code, none, v0, v1, free, Cube, meet_code, coded, shares}
use Rattle.model.specs.Walk.{piece, visit, children, in_turn, visited}
use Rattle.model.proofs.Turns.{visit-none, visit-met, visit-passed}
use Rattle.visits.specs.Opening.{bit}
use Rattle.visits.specs.Words.{row_cube, cuts_below}
use Rattle.visits.specs.Alive.{clash, Alive, AgainstAt, Against}
use Rattle.visits.proofs.Digits.{below_or, digit_and, digit-xor, digit-below, digit-top}
use Rattle.visits.proofs.WordCubes.{bit-zero}

-- a free position takes a value
value-meets : (v y : Code) → (v ≡ v0) ⊎ (v ≡ v1) → coded (meet_code v y) ≡ coded (meet_code free y) && not (clash v y)
value-meets v y s = ⊎_elim (λ (e : v ≡ v0). rw e (zero y)) (λ (e : v ≡ v1). rw e (one y)) s
  where
    zero : (y : Code) → coded (meet_code v0 y) ≡ coded y && not (clash v0 y)
    zero none = refl
    zero v0 = refl
    zero v1 = refl
    zero free = refl

    one : (y : Code) → coded (meet_code v1 y) ≡ coded y && not (clash v1 y)
    one none = refl
    one v0 = refl
    one v1 = refl
    one free = refl

and-middle : (a b c : Bool) → (a && b) && c ≡ (a && c) && b
and-middle true true true = refl
and-middle true true false = refl
and-middle true false true = refl
and-middle true false false = refl
and-middle false b c = refl

and-assoc' : (a b c : Bool) → a && (b && c) ≡ (a && b) && c
and-assoc' true b c = refl
and-assoc' false b c = refl

pub child-shares : (p c : Cube) (i : ℕ) (v : Code) → (v ≡ v0) ⊎ (v ≡ v1) → get_or p i none ≡ free
    → shares (set p i v) c ≡ shares p c && not (clash v (get_or c i none))
child-shares [] c i v s e = let z : ◌≡◌ {A = Bool} true false = cc in absurd (true≢false z)
child-shares (x ∷ p) [] zero v s e = refl
child-shares (x ∷ p) [] (suc i) v s e = refl
child-shares (x ∷ p) (y ∷ c) zero v s e = rw e (rw (value-meets v y s) (and-middle (coded y) (not (clash v y)) (shares p c)))
child-shares (x ∷ p) (y ∷ c) (suc i) v s e = rw (child-shares p c i v s e) (and-assoc' (coded (meet_code x y)) (shares p c) (not (clash v (get_or c i none))))

-- a digit of the piece and one against the child
less-bits : (a b : Bool) → bit_xor (bit a) (bit_and (bit a) (bit b)) ≡ bit (a && not b)
less-bits true true = refl
less-bits true false = refl
less-bits false true = refl
less-bits false false = refl

pub alive-child : (cuts : List (List ℕ)) (n : ℕ) (p q : Cube) (i : ℕ) (v : Code) (x g r : ℕ) → Alive cuts n p x → AgainstAt cuts n i v g
    → (v ≡ v0) ⊎ (v ≡ v1)
    → get_or p i none ≡ free → q ≡ set p i v → r ≡ bit_xor x (bit_and x g) → Alive cuts n q r
alive-child cuts n p q i v x g r a b s e eq er =
    rw (eq, er) (
      xor_lt n x (bit_and x g) a.0 (omega (arith, a.0, and_le_l x g)),
      λ j h.
          digit-xor j x (bit_and x g)
          ∙ rw (digit_and j x g, a.1 j h, b j h, child-shares p (row_cube cuts j) i v s e)
          (less-bits (shares p (row_cube cuts j)) (clash v (get_or (row_cube cuts j) i none))),
    )

-- the highest digit
pub pow-double : (m : ℕ) → 2 ^ suc m ≡ 2 ^ m + 2 ^ m
pow-double m = omega (arith, pow-suc 2 m)

pub alive-fewer : (cuts : List (List ℕ)) (n m : ℕ) (p : Cube) (x : ℕ) → Alive cuts n p x → 2 ^ m ≤ x → x < 2 ^ suc m → m < n
    → Alive cuts m p (x - 2 ^ m)
alive-fewer cuts n m p x a o u l =
    (omega (arith, pow-double m), λ j h. let e : x ≡ 2 ^ m + (x - 2 ^ m) = omega arith in sym (digit-below j m (x - 2 ^ m) h) ∙ rw (← e) (a.1 j (omega arith)))

bit-true : (b : Bool) → bit b ≡ 1 → b ≡ true
bit-true true e = refl
bit-true false e = absurd (omega arith)

pub alive-meets : (cuts : List (List ℕ)) (n m : ℕ) (p : Cube) (x : ℕ) → Alive cuts n p x → 2 ^ m ≤ x → x < 2 ^ suc m → m < n
    → shares p (row_cube cuts m) ≡ true
alive-meets cuts n m p x a o u l =
    let e : x ≡ 2 ^ m + (x - 2 ^ m) = omega arith in
    bit-true (shares p (row_cube cuts m)) (sym (a.1 m l) ∙ rw e (digit-top m (x - 2 ^ m) (alive-fewer cuts n m p x a o u l).0))

pub alive-top : (n m x : ℕ) → x < 2 ^ n → 2 ^ m ≤ x → m < n
alive-top n m x h o = ⊎_elim (λ l. l) (λ (l : n ≤ m). absurd (omega (arith, pow_mono l))) (below_or m n)

-- a visit with the cuts of the rows that are left
module _ (cuts : List (List ℕ)) (n : ℕ) (p : Cube) where
  pub rows-met : shares p (row_cube cuts n) ≡ true
      → visit (cuts_below cuts (suc n)) p ≡ visited (in_turn (visit (cuts_below cuts n)) (children p (row_cube cuts n)))
  unfolding cuts_below
  rows-met = visit-met (row_cube cuts n) (cuts_below cuts n) p

  pub rows-passed : shares p (row_cube cuts n) ≡ false → visit (cuts_below cuts (suc n)) p ≡ visit (cuts_below cuts n) p
  unfolding cuts_below
  rows-passed = visit-passed (row_cube cuts n) (cuts_below cuts n) p

-- the cuts of more weight than any digit
pub alive-passed : (cuts : List (List ℕ)) (n m : ℕ) (p : Cube) (x : ℕ) → Alive cuts n p x → x < 2 ^ m → m ≤ n
    → visit (cuts_below cuts n) p ≡ visit (cuts_below cuts m) p
alive-passed cuts zero m p x a h l = let e : m ≡ 0 = omega arith in rw e
alive-passed cuts (suc n) m p x a h l =
    ⊎_elim
    (λ (k : m < suc n).
    let low : m ≤ n = omega arith in
    let b : x < 2 ^ n = omega (arith, pow_mono low) in
    let z : shares p (row_cube cuts n) ≡ false = bit-zero (shares p (row_cube cuts n)) (sym (a.1 n (omega arith)) ∙ rw (div-eq_of_lt b)) in
    rows-passed cuts n p z ∙ alive-passed cuts n m p x (b, λ j d. a.1 j (omega arith)) h (omega arith))
    (λ (k : suc n ≤ m). let e : m ≡ suc n = omega arith in rw e) (below_or m (suc n))

pub alive-none : (cuts : List (List ℕ)) (n : ℕ) (p : Cube) (x : ℕ) → Alive cuts n p x → x ≡ 0
    → visit (cuts_below cuts n) p ≡ record { pieces = 1; survivor = piece p }
unfolding cuts_below
alive-none cuts n p x a e = alive-passed cuts n 0 p x a (omega arith) (omega arith) ∙ visit-none p

pub against-fewer : (cuts : List (List ℕ)) (n m : ℕ) (rows : List ℕ) → m ≤ n → Against cuts n rows → Against cuts m rows
against-fewer cuts n m rows l g i v h k j d = g i v h k j (omega arith)
