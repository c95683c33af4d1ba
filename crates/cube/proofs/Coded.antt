-- Codes read and written in bytes.
--   shift-code, weight-pow     a code as it is read, and the weight of its place
--   code-small, code-none      a code read is below 4, and 0 where there is no byte
--   code_here       the code at a position of a cube that stands at the front
--   code-min        a number above 3 is the code 3
--   room            a byte with another code at a place of it is a byte
--   codes-set       a code put in a byte is that code at the position, and the others are kept
--   bytes-are       bytes that hold a cube with the unused places behind it are the bytes written of it
use Prim.Native.Nat.{ℕ, zero, suc, ◌+◌, ◌-◌, ◌*◌, ◌/◌, ◌%◌, ◌^◌, ◌≤◌, ◌<◌, min}
use native.Mathlib.Nat.{mod-lt, zero-add}
use native.Mathlib.Omega.{arith}
use mathlib.Core.Path.{◌≡◌, refl, sym, ap, ◌∙◌}
use mathlib.Core.List.{List, [], ◌∷◌}
use lib.Bits.{bit_and, and_mask}
use lib.Dec.{lit<}
use lib.ListN.{length, get_or, set, get_or-eq_default}
use Rattle.model.specs.Cube.{Cube}
use Rattle.model.specs.Padding.{pad}
use Rattle.format.specs.Bytes.{Bytes, cube_len, code_of, codes, cube_bytes, write_cube, unused}
use Rattle.format.proofs.Coding.{write-padded, write_bytes, codes-tell, four-codes}
use Rattle.cube.specs.Code.{code_at, recoded}
use Rattle.cube.proofs.Codes.{below4}

-- a code read, and the weight of a place
pub shift-code : (x i : ℕ) → bit_and (x / 2 ^ (6 - 2 * (i % 4))) 3 ≡ x / 4 ^ (3 - i % 4) % 4
shift-code x i =
    below4 (λ (k : ℕ). bit_and (x / 2 ^ (6 - 2 * k)) 3 ≡ x / 4 ^ (3 - k) % 4)
    (and_mask (x / 64) 2) (and_mask (x / 16) 2) (and_mask (x / 4) 2) (and_mask (x / 1) 2) (i % 4) (mod-lt i (lit< tt))

pub code-small : (s : List ℕ) (at i : ℕ) → code_at s at i < 4
unfolding code_at
code-small s at i = omega arith

pub code_here : (s : List ℕ) (i : ℕ) → code_at s 0 i ≡ get_or s (i / 4) 0 / 4 ^ (3 - i % 4) % 4
unfolding code_at
code_here s i = rw (zero-add (i / 4))

pub code-none : (s : List ℕ) (at i : ℕ) → length s ≤ at + i / 4 → 0 ≡ code_at s at i
unfolding code_at
code-none s at i h =
    rw (get_or-eq_default s 0 h) (below4 (λ (k : ℕ). 0 ≡ 0 / 4 ^ (3 - k) % 4) refl refl refl refl (i % 4) (mod-lt i (lit< tt)))

pub code-min : (v : ℕ) → code_of (min v 3) ≡ code_of v
code-min zero = refl
code-min (suc zero) = refl
code-min (suc (suc zero)) = refl
code-min (suc (suc (suc v))) = let e : min (suc (suc (suc v))) 3 ≡ 3 = omega arith in rw e

pub weight-pow : (i : ℕ) → 64 / 2 ^ (2 * (i % 4)) ≡ 4 ^ (3 - i % 4)
weight-pow i = below4 (λ (k : ℕ). 64 / 2 ^ (2 * k) ≡ 4 ^ (3 - k)) refl refl refl refl (i % 4) (mod-lt i (lit< tt))

-- what is taken off a byte is there, and what is put in its place fits
pub room : (b i v : ℕ) → b < 256 → v < 4 → (b / 4 ^ (3 - i % 4) % 4 * 4 ^ (3 - i % 4) ≤ b) × (recoded b (4 ^ (3 - i % 4)) v < 256)
room b i v h l =
    below4 (λ (k : ℕ). (b / 4 ^ (3 - k) % 4 * 4 ^ (3 - k) ≤ b) × (recoded b (4 ^ (3 - k)) v < 256))
    (omega arith, omega arith) (omega arith, omega arith) (omega arith, omega arith) (omega arith, omega arith) (i % 4) (mod-lt i (lit< tt))

place0 : (b v : ℕ) → v < 4
    → (recoded b 64 v / 64 % 4 ≡ v) × (recoded b 64 v / 16 % 4 ≡ b / 16 % 4) × (recoded b 64 v / 4 % 4 ≡ b / 4 % 4) × (recoded b 64 v % 4 ≡ b % 4)
place0 b v h = (omega arith, omega arith, omega arith, omega arith)

place1 : (b v : ℕ) → v < 4
    → (recoded b 16 v / 64 % 4 ≡ b / 64 % 4) × (recoded b 16 v / 16 % 4 ≡ v) × (recoded b 16 v / 4 % 4 ≡ b / 4 % 4) × (recoded b 16 v % 4 ≡ b % 4)
place1 b v h = (omega arith, omega arith, omega arith, omega arith)

place2 : (b v : ℕ) → v < 4
    → (recoded b 4 v / 64 % 4 ≡ b / 64 % 4) × (recoded b 4 v / 16 % 4 ≡ b / 16 % 4) × (recoded b 4 v / 4 % 4 ≡ v) × (recoded b 4 v % 4 ≡ b % 4)
place2 b v h = (omega arith, omega arith, omega arith, omega arith)

place3 : (b v : ℕ) → v < 4
    → (recoded b 1 v / 64 % 4 ≡ b / 64 % 4) × (recoded b 1 v / 16 % 4 ≡ b / 16 % 4) × (recoded b 1 v / 4 % 4 ≡ b / 4 % 4) × (recoded b 1 v % 4 ≡ v)
place3 b v h = (omega arith, omega arith, omega arith, omega arith)

-- one byte's four codes, and the rest
pub codes-set : (bs : List ℕ) (p v : ℕ) → p < 4 * length bs → v < 4
    → codes (set bs (p / 4) (recoded (get_or bs (p / 4) 0) (4 ^ (3 - p % 4)) v)) ≡ set (codes bs) p (code_of v)
codes-set [] p v h k = absurd (omega arith)
codes-set (b ∷ bs) zero v h k = four-codes (codes bs) (place0 b v k)
codes-set (b ∷ bs) (suc zero) v h k = four-codes (codes bs) (place1 b v k)
codes-set (b ∷ bs) (suc (suc zero)) v h k = four-codes (codes bs) (place2 b v k)
codes-set (b ∷ bs) (suc (suc (suc zero))) v h k = four-codes (codes bs) (place3 b v k)
codes-set (b ∷ bs) (suc (suc (suc (suc p)))) v h k =
    let q : suc (suc (suc (suc p))) / 4 ≡ suc (p / 4) = omega arith in
    let r : suc (suc (suc (suc p))) % 4 ≡ p % 4 = omega arith in
    rw (q, r)
    (ap (λ (l : Cube). code_of (b / 64 % 4) ∷ code_of (b / 16 % 4) ∷ code_of (b / 4 % 4) ∷ code_of (b % 4) ∷ l) (codes-set bs p v (omega arith) k))

pub bytes-are : (w : ℕ) (b : List ℕ) (c : Cube) → Bytes b → length c ≡ w → codes b ≡ pad (unused w) c → b ≡ write_cube c
bytes-are w b c h l e =
    let q : cube_len (length c) ≡ cube_len w = ap cube_len l in
    let f : 4 * cube_len w - length c ≡ unused w = omega arith in
    rw q (codes-tell b (cube_bytes (cube_len w) c) h (write_bytes (cube_len w) c) (e ∙ sym (rw f at (write-padded (cube_len w) c (omega arith)))))
