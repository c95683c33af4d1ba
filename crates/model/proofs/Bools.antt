-- Conjunctions and disjunctions of tests, taken apart and put together.
--   and_left, and_right, and_both, and-swap, or-none   a conjunction and its parts; four tests in pairs; neither of two
--   less_none, none-less   nothing is in the first and not in the second exactly where all of the first is in the second
use mathlib.Core.Path.{◌≡◌, refl, sym}
use mathlib.Core.Bool.{Bool, true, false, not, ◌&&◌, ◌||◌}

pub and_left : (a b : Bool) → a && b ≡ true → a ≡ true
and_left true b e = refl
and_left false b e = e

pub and_right : (a b : Bool) → a && b ≡ true → b ≡ true
and_right true b e = e
and_right false b e = cc

pub and_both : (a b : Bool) → a ≡ true → b ≡ true → a && b ≡ true
and_both true b p q = q
and_both false b p q = p

pub and-swap : (a b c d : Bool) → (a && b) && (c && d) ≡ (a && c) && (b && d)
and-swap true true c d = refl
and-swap true false true d = refl
and-swap true false false d = refl
and-swap false b c d = refl

pub or-none : (a b : Bool) → a || b ≡ false → (a ≡ false) × (b ≡ false)
or-none true b e = (e, cc)
or-none false b e = (refl, e)

pub less_none : (m n : Bool) → m && not n ≡ false → m ≡ true → n ≡ true
less_none m true e i = refl
less_none true false e i = sym e
less_none false false e i = i

pub none-less : (m n : Bool) → (m ≡ true → n ≡ true) → m && not n ≡ false
none-less true n f = rw (f refl)
none-less false n f = refl
