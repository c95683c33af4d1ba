-- A table of tests in their order, as data: the first row whose test holds gives the outcome, else the last line does.
--   Test            == one number below another (below m n), equal to it (is m n), another (isnt m n), or a truth (so b)
--   passes t        == the test holds
--   Rows A          == a table whose outcomes are of the type A
--   outcome k       == what the table k gives
--   Holds, Fails    == a test, and its contrary, as facts
--   Each P k        == P holds of each row's outcome where the tests above it fail and its own holds
--   Reaches n k     == every test above row n of k fails, and its own holds; rows are counted from 0, and the last line comes after them
--   nth n k         == what row n of k gives
--   onto f p k      == the table k, after the tests of p, whose outcomes f makes those of k; the last line of p is not asked
--   then p k        == the same of tables of one type
use Rattle.std.specs.Prelude.{ℕ, zero, suc, ◌≤◌, ◌<◌, ◌≡◌, Bool, true, false, cond, not, ltb, eqb}

pub data Test : Type 0 where
  below : ℕ → ℕ → Test
  is : ℕ → ℕ → Test
  isnt : ℕ → ℕ → Test
  so : Bool → Test

unfoldable pub passes : Test → Bool
passes (below m n) = ltb m n
passes (is m n) = eqb m n
passes (isnt m n) = not (eqb m n)
passes (so b) = b

pub data Rows (A : Type 0) : Type 0 where
  last : A → Rows A
  row : Test → A → Rows A → Rows A

-- FORMAT 31
unfoldable pub outcome : {A : Type 0} → Rows A → A
outcome (last a) = a
outcome (row t a k) = cond (passes t) a (outcome k)

-- a table whose tests come before another's
abbrev pub onto : {A B : Type 0} → (A → B) → Rows A → Rows B → Rows B
onto f (last a) k = k
onto f (row t a p) k = row t (f a) (onto f p k)

abbrev pub then : {A : Type 0} → Rows A → Rows A → Rows A
then p k = onto (λ a. a) p k

abbrev pub Holds : Test → Type 0
Holds (below m n) = m < n
Holds (is m n) = m ≡ n
Holds (isnt m n) = m ≡ n → ⊥
Holds (so b) = b ≡ true

abbrev pub Fails : Test → Type 0
Fails (below m n) = n ≤ m
Fails (is m n) = m ≡ n → ⊥
Fails (isnt m n) = m ≡ n
Fails (so b) = b ≡ false

abbrev pub Each : {A : Type 0} → (A → Type 0) → Rows A → Type 0
Each P (last a) = P a
Each P (row t a k) = (Holds t → P a) × (Fails t → Each P k)

abbrev pub Reaches : {A : Type 0} → ℕ → Rows A → Type 0
Reaches n (last a) = Unit {0}
Reaches zero (row t a k) = Holds t
Reaches (suc n) (row t a k) = Fails t × Reaches n k

abbrev pub nth : {A : Type 0} → ℕ → Rows A → A
nth n (last a) = a
nth zero (row t a k) = a
nth (suc n) (row t a k) = nth n k
