-- Cubes in values of several places: bytes and words.
--   CodesOf n word cube        == the cube in values of n places: the codes in the last n places of each one's word, one value after the other
--   Passed n cube p c b        == p and c are as many values of n places each, their cubes no longer than can be counted, and those before b have no
--                                 place where c opens p
--   words-length, words-at     the length of a cube in words, and its code at a position
--   byte-few, word-few         bytes and words have no more than 32 places
--   byte-codes, word-codes     the cubes in bytes and in words are such
use Rattle.std.specs.Prelude.{ℕ, zero, suc, ◌+◌, ◌-◌, ◌*◌, ◌/◌, ◌%◌, ◌^◌, ◌≤◌, ◌<◌, ◌≡◌, refl, List, length, get_or}
use Rattle.std.proofs.Common.{ap, ◌∙◌, arith, lit≤}
use Rattle.std.proofs.lemmas.List.{get_or_default}
use Rattle.model.specs.Cube.{Code, none, Cube}
use Rattle.format.specs.Bytes.{code_of, codes}
use Rattle.format.proofs.Coding.{code-at}
use Rattle.cube.proofs.Codes.{below4}
use Rattle.visits.specs.Opening.{first_open}
use Rattle.visits.specs.Words.{place_at, number_in, code_in, tabled, cube_of_words}

abbrev pub CodesOf : {A : Type 0} → ℕ → (A → ℕ) → (List A → Cube) → Type 0
CodesOf n word cube =
    (xs : List _) (d : _) (b k : ℕ) → length (cube xs) ≡ n * length xs → b < length xs → k < n
    → get_or (cube xs) (n * b + k) none ≡ code_of (place_at (word (get_or xs b d)) (32 - n + k))

pub record Passed {A : Type 0} (n : ℕ) (cube : List A → Cube) (p c : List A) (b : ℕ) : Type 0 where
  pub even : length p ≡ length c
  pub piece : length (cube p) ≡ n * length p
  pub cut : length (cube c) ≡ n * length c
  pub counted : length (cube p) < 2 ^ 64
  pub passed : n * b ≤ first_open (cube p) (cube c)

tabled-length : (n : ℕ) (f : ℕ → Code) (i : ℕ) → length (tabled n f i) ≡ n
unfolding tabled
tabled-length zero f i = refl
tabled-length (suc n) f i = ap suc (tabled-length n f (suc i))

tabled-at : (n : ℕ) (f : ℕ → Code) (i k : ℕ) → k < n → get_or (tabled n f i) k none ≡ f (i + k)
unfolding tabled
tabled-at zero f i k h = absurd (omega arith)
tabled-at (suc n) f i zero h = let e : i + 0 ≡ i = omega arith in rw e
tabled-at (suc n) f i (suc k) h = let e : i + suc k ≡ suc i + k = omega arith in rw e (tabled-at n f (suc i) k (omega arith))

pub words-length : (ws : List ℕ) → length (cube_of_words ws) ≡ 320
unfolding cube_of_words
words-length ws = tabled-length 320 (code_in ws) 0

pub words-at : (ws : List ℕ) (i : ℕ) → i < 320 → get_or (cube_of_words ws) i none ≡ code_in ws i
unfolding cube_of_words
words-at ws i h = tabled-at 320 (code_in ws) 0 i h ∙ (let e : 0 + i ≡ i = omega arith in rw e)

pub byte-few : 4 ≤ 32
byte-few = lit≤ tt

pub word-few : 32 ≤ 32
word-few = lit≤ tt

pub byte-codes : CodesOf 4 (λ (x : ℕ). x) codes
byte-codes xs d b k e h l =
    let q : (4 * b + k) / 4 ≡ b = omega arith in
    let r : (4 * b + k) % 4 ≡ k = omega arith in
    let c : get_or (codes xs) (4 * b + k) none ≡ code_of (get_or xs b 0 / 4 ^ (3 - k) % 4) = rw (q, r) at (code-at xs (4 * b + k) (omega arith)) in
    rw (c, get_or_default xs b d 0 h)
    (below4 (λ (k : ℕ). code_of (get_or xs b 0 / 4 ^ (3 - k) % 4) ≡ code_of (place_at (get_or xs b 0) (28 + k))) refl refl refl refl k l)

pub word-codes : CodesOf 32 (λ (x : ℕ). x) cube_of_words
unfolding number_in
word-codes xs d b k e h l =
    let q : (32 * b + k) / 32 ≡ b = omega arith in
    let r : (32 * b + k) % 32 ≡ k = omega arith in
    let z : 0 + k ≡ k = omega arith in
    rw (words-at xs (32 * b + k) (omega (arith, words-length xs)), q, r, get_or_default xs b d 0 h, z)
