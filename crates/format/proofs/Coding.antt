-- Cubes as bytes: what an accepted cube's bytes read as, and that reading and writing undo one another.
--   length-codes, code-at    how many codes bytes have, and which one stands at a position (FORMAT 16)
--   fault-solid, fault-free  what an accepted cube is: no code 0 at a position, every unused place 3
--   lent_length, lent-cube   what an accepted lent cube is: of its length, and an accepted cube
--   lent-fault               bytes of a cube's length are lent with the cube's fault
--   read_length, read-padded    the cube read has its w positions, and the bytes hold it with unused places behind it
--   four-codes               equal numbers give equal codes, four of them before the same codes
--   codes-free               bytes 255 hold free positions alone
--   write-padded, read-write    the bytes written hold the cube, and it is read again
--   write-length, write_bytes   n numbers are written, and they are bytes
--   write-accepted           the bytes written of a cube without `none` are accepted
--   codes-tell               bytes with the same codes are the same bytes
--   write_read               an accepted cube is written again with the same bytes
use Prim.Native.Nat.{ℕ, zero, suc, ◌+◌, ◌-◌, ◌*◌, ◌/◌, ◌%◌, ◌^◌, ◌≤◌, ◌<◌}
use native.Mathlib.Nat.{div-one}
use native.Mathlib.Omega.{arith}
use mathlib.Core.Path.{◌≡◌, refl, sym, ap, ◌∙◌}
use mathlib.Core.List.{List, [], ◌∷◌, ◌++◌}
use mathlib.Core.Bool.{true, false, not}
use borrow.Author.Tests.{not-false}
use lib.ListN.{length, get_or, take, drop, replicate, length-drop, take-append-drop}
use lib.Seq.{length-take-le, take_at, drop_at}
use Rattle.model.specs.Cube.{Code, none, v0, v1, free, Cube, solid}
use Rattle.model.proofs.Bools.{and_left, and_right}
use Rattle.model.specs.Padding.{pad}
use Rattle.format.specs.Rows.{last, row, isnt, outcome}
use Rattle.format.specs.Bytes.{unused, Bytes, cube_len, code_of, number_of, codes, read_cube, cube_bytes, write_cube, is_free, all_free, cube_rows, cube_fault, lent_rows, lent_fault}
use Rattle.format.proofs.Reached.{reached, clean}

-- positions
pub length-codes : (bs : List ℕ) → length (codes bs) ≡ 4 * length bs
length-codes [] = refl
length-codes (b ∷ bs) = let ih = length-codes bs in omega arith

-- FORMAT 16: a position's byte, and its weight there
pub code-at : (bs : List ℕ) (p : ℕ) → p < 4 * length bs → get_or (codes bs) p none ≡ code_of (get_or bs (p / 4) 0 / 4 ^ (3 - p % 4) % 4)
code-at [] p h = absurd (omega arith)
code-at (b ∷ bs) zero h = refl
code-at (b ∷ bs) (suc zero) h = refl
code-at (b ∷ bs) (suc (suc zero)) h = refl
code-at (b ∷ bs) (suc (suc (suc zero))) h = ap (λ (x : ℕ). code_of (x % 4)) (sym (div-one b))
code-at (b ∷ bs) (suc (suc (suc (suc p)))) h =
    let q : suc (suc (suc (suc p))) / 4 ≡ suc (p / 4) = omega arith in
    let r : suc (suc (suc (suc p))) % 4 ≡ p % 4 = omega arith in
    rw (q, r) (code-at bs p (omega arith))

-- an accepted cube
module _ (w : ℕ) (bs : List ℕ) (e : cube_fault w bs ≡ 0) where
  no-fault : (not (solid (read_cube w bs)) ≡ false) × ((not (all_free (drop w (codes bs))) ≡ false) × (◌≡◌ {A = ℕ} 0 0))
  unfolding cube_fault
  no-fault = clean (cube_rows w bs) (omega arith) e

  pub fault-solid : solid (read_cube w bs) ≡ true
  fault-solid = not-false (solid (read_cube w bs)) no-fault.0

  pub fault-free : all_free (drop w (codes bs)) ≡ true
  fault-free = not-false (all_free (drop w (codes bs))) no-fault.1.0

-- a lent cube
module _ (w : ℕ) (bs : List ℕ) where
  pub lent_length : lent_fault w bs ≡ 0 → length bs ≡ cube_len w
  unfolding lent_fault
  lent_length e = (clean (lent_rows w bs) (omega arith) e).0

  pub lent-fault : length bs ≡ cube_len w → lent_fault w bs ≡ cube_fault w bs
  unfolding lent_fault cube_fault outcome
  lent-fault l = sym (reached 1 (row (isnt (length bs) (cube_len w)) 12 (last (cube_fault w bs))) (l, tt))

  pub lent-cube : lent_fault w bs ≡ 0 → cube_fault w bs ≡ 0
  lent-cube e = sym (lent-fault (lent_length e)) ∙ e

free-code : (x : Code) → is_free x ≡ true → x ≡ free
free-code none e = cc
free-code v0 e = cc
free-code v1 e = cc
free-code free e = refl

free_all : (c : Cube) → all_free c ≡ true → c ≡ replicate (length c) free
free_all [] e = refl
free_all (x ∷ c) e =
    let h = free-code x (and_left (is_free x) (all_free c) e) in
    let t = free_all c (and_right (is_free x) (all_free c) e) in
    λ i. h i ∷ t i

module _ (w : ℕ) (bs : List ℕ) (l : length bs ≡ cube_len w) where
  pub read_length : length (read_cube w bs) ≡ w
  unfolding read_cube
  read_length = length-take-le w (codes bs) (omega (arith, length-codes bs))

  pub read-padded : cube_fault w bs ≡ 0 → codes bs ≡ pad (unused w) (read_cube w bs)
  unfolding read_cube
  read-padded e =
      let n : length (drop w (codes bs)) ≡ unused w = simp length-drop (omega (arith, length-codes bs)) in
      sym (take-append-drop w (codes bs)) ∙ ap (λ (c : Cube). take w (codes bs) ++ c) (free_all (drop w (codes bs)) (fault-free w bs e) ∙ ap (λ (m : ℕ). replicate m free) n)

-- writing
number_lt : (x : Code) → number_of x < 4
number_lt none = omega arith
number_lt v0 = omega arith
number_lt v1 = omega arith
number_lt free = omega arith

code-number : (x : Code) → code_of (number_of x) ≡ x
code-number none = refl
code-number v0 = refl
code-number v1 = refl
code-number free = refl

number-code : (n : ℕ) → n < 4 → number_of (code_of n) ≡ n
number-code zero h = refl
number-code (suc zero) h = refl
number-code (suc (suc zero)) h = refl
number-code (suc (suc (suc zero))) h = refl
number-code (suc (suc (suc (suc n)))) h = absurd (omega arith)

abbrev sum : ℕ → ℕ → ℕ → ℕ → ℕ
sum a b c d = 64 * a + 16 * b + 4 * c + d

digits : (a b c d : ℕ) → a < 4 → b < 4 → c < 4 → d < 4
    → (sum a b c d / 64 % 4 ≡ a) × (sum a b c d / 16 % 4 ≡ b) × (sum a b c d / 4 % 4 ≡ c) × (sum a b c d % 4 ≡ d)
digits a b c d ha hb hc hd = (omega arith, omega arith, omega arith, omega arith)

-- a byte's four codes, written and read
four : (x y z v : Code) (bs : List ℕ) → codes (sum (number_of x) (number_of y) (number_of z) (number_of v) ∷ bs) ≡ x ∷ y ∷ z ∷ v ∷ codes bs
four x y z v bs =
    let d = digits (number_of x) (number_of y) (number_of z) (number_of v) (number_lt x) (number_lt y) (number_lt z) (number_lt v) in
    rw (d.0, d.1, d.2, d.3, code-number x, code-number y, code-number z, code-number v)

pub four-codes : {a b c d a' b' c' d' : ℕ} (r : Cube) → (a ≡ a') × (b ≡ b') × (c ≡ c') × (d ≡ d')
    → ◌≡◌ {A = Cube} (code_of a ∷ code_of b ∷ code_of c ∷ code_of d ∷ r) (code_of a' ∷ code_of b' ∷ code_of c' ∷ code_of d' ∷ r)
four-codes r h = λ i. code_of (h.0 i) ∷ code_of (h.1 i) ∷ code_of (h.2 i) ∷ code_of (h.3 i) ∷ r

pub codes-free : (n : ℕ) → codes (replicate n 255) ≡ replicate (4 * n) free
codes-free zero = refl
codes-free (suc n) = let e : 4 * suc n ≡ suc (suc (suc (suc (4 * n)))) = omega arith in rw (e, codes-free n)

pub write-padded : (n : ℕ) (c : Cube) → length c ≤ 4 * n → codes (cube_bytes n c) ≡ pad (4 * n - length c) c
unfolding cube_bytes
write-padded zero [] h = refl
write-padded zero (x ∷ c) h = absurd (omega arith)
write-padded (suc n) [] h =
    four free free free free (cube_bytes n []) ∙ rw (write-padded n [] (omega arith)) (let e : 4 * suc n - 0 ≡ suc (suc (suc (suc (4 * n - 0)))) = omega arith in rw e)
write-padded (suc n) (x ∷ []) h =
    four x free free free (cube_bytes n []) ∙ rw (write-padded n [] (omega arith)) (let e : 4 * suc n - 1 ≡ suc (suc (suc (4 * n - 0))) = omega arith in rw e)
write-padded (suc n) (x ∷ y ∷ []) h =
    four x y free free (cube_bytes n []) ∙ rw (write-padded n [] (omega arith)) (let e : 4 * suc n - 2 ≡ suc (suc (4 * n - 0)) = omega arith in rw e)
write-padded (suc n) (x ∷ y ∷ z ∷ []) h =
    four x y z free (cube_bytes n []) ∙ rw (write-padded n [] (omega arith)) (let e : 4 * suc n - 3 ≡ suc (4 * n - 0) = omega arith in rw e)
write-padded (suc n) (x ∷ y ∷ z ∷ v ∷ c) h =
    let e : 4 * suc n - suc (suc (suc (suc (length c)))) ≡ 4 * n - length c = omega arith in
    four x y z v (cube_bytes n c) ∙ rw (write-padded n c (omega arith), e)

pub write-length : (n : ℕ) (c : Cube) → length (cube_bytes n c) ≡ n
unfolding cube_bytes
write-length zero c = refl
write-length (suc n) c = ap suc (write-length n (drop 4 c))

pub write_bytes : (n : ℕ) (c : Cube) → Bytes (cube_bytes n c)
unfolding cube_bytes
write_bytes zero c = tt
write_bytes (suc n) c =
    (omega (arith, number_lt (get_or c 0 free), number_lt (get_or c 1 free), number_lt (get_or c 2 free), number_lt (get_or c 3 free)), write_bytes n (drop 4 c))

pub read-write : (c : Cube) → read_cube (length c) (write_cube c) ≡ c
unfolding read_cube
read-write c =
    ap (take (length c)) (write-padded (cube_len (length c)) c (omega arith)) ∙ take_at c (replicate (4 * cube_len (length c) - length c) free) (length c) refl

all-free : (n : ℕ) → all_free (replicate n free) ≡ true
all-free zero = refl
all-free (suc n) = all-free n

write-free : (c : Cube) → all_free (drop (length c) (codes (write_cube c))) ≡ true
write-free c =
    let spare = 4 * cube_len (length c) - length c in
    rw (write-padded (cube_len (length c)) c (omega arith), drop_at c (replicate spare free) (length c) refl) (all-free spare)

pub write-accepted : (c : Cube) → solid c ≡ true → cube_fault (length c) (write_cube c) ≡ 0
unfolding cube_fault
write-accepted c e = sym (reached 2 (cube_rows (length c) (write_cube c)) (rw (read-write c, e), (rw (write-free c), tt)))

-- a byte and its four codes
digit : (x y : ℕ) → x < 4 → y < 4 → code_of x ≡ code_of y → x ≡ y
digit x y hx hy e = sym (number-code x hx) ∙ ap number_of e ∙ number-code y hy

top : (x y : ℕ) → x < 256 → y < 256 → x / 64 % 4 ≡ y / 64 % 4 → x / 64 ≡ y / 64
top x y hx hy e = omega arith

lower : (x y : ℕ) → x / 4 ≡ y / 4 → x % 4 ≡ y % 4 → x ≡ y
lower x y p e = omega arith

byte-codes : (x y : ℕ) → x < 256 → y < 256 → code_of (x / 64 % 4) ≡ code_of (y / 64 % 4) → code_of (x / 16 % 4) ≡ code_of (y / 16 % 4) → code_of (x / 4 % 4) ≡ code_of (y / 4 % 4) → code_of (x % 4) ≡ code_of (y % 4) → x ≡ y
byte-codes x y hx hy a b c d =
    let p = top x y hx hy (digit (x / 64 % 4) (y / 64 % 4) (omega arith) (omega arith) a) in
    let q : x / 16 ≡ y / 16 = lower (x / 16) (y / 16) (omega arith) (digit (x / 16 % 4) (y / 16 % 4) (omega arith) (omega arith) b) in
    let r : x / 4 ≡ y / 4 = lower (x / 4) (y / 4) (omega arith) (digit (x / 4 % 4) (y / 4 % 4) (omega arith) (omega arith) c) in
    lower x y r (digit (x % 4) (y % 4) (omega arith) (omega arith) d)

pub codes-tell : (a b : List ℕ) → Bytes a → Bytes b → codes a ≡ codes b → a ≡ b
codes-tell [] [] ha hb e = refl
codes-tell [] (y ∷ b) ha hb e = cc
codes-tell (x ∷ a) [] ha hb e = cc
codes-tell (x ∷ a) (y ∷ b) ha hb e =
    let h : x ≡ y = byte-codes x y ha.0 hb.0 (cc) (cc) (cc) (cc) in
    let t = codes-tell a b ha.1 hb.1 (cc) in
    λ i. h i ∷ t i

pub write_read : (w : ℕ) (bs : List ℕ) → length bs ≡ cube_len w → Bytes bs → cube_fault w bs ≡ 0 → write_cube (read_cube w bs) ≡ bs
write_read w bs l h e =
    let n = read_length w bs l in
    let m : length (read_cube w bs) ≤ 4 * cube_len w = omega arith in
    rw (n)
    (codes-tell (cube_bytes (cube_len w) (read_cube w bs)) bs (write_bytes (cube_len w) (read_cube w bs)) h
    (write-padded (cube_len w) (read_cube w bs) m ∙ rw n (sym (read-padded w bs l e))))
