-- Headers as bytes: which bit stands at a position, and that a header written is accepted and read again.
--   length-bits, bit_at      how many bits bytes have, and which one stands at a position (FORMAT 13)
--   bits-written             the bytes written hold the header, with zeros behind it
--   header-length, header-bytes    how many bytes are written, and that they are bytes
--   read-written             the header written is read again
--   header-accepted          the header written passes the tests of 11: its length, and no bit set behind its positions
use Prim.Native.Nat.{ℕ, zero, suc, ◌+◌, ◌-◌, ◌*◌, ◌/◌, ◌%◌, ◌^◌, ◌≤◌, ◌<◌}
use native.Mathlib.Nat.{div-one, suc-sub-suc}
use native.Mathlib.Omega.{arith}
use mathlib.Core.Path.{◌≡◌, refl, sym, ap, ◌∙◌}
use mathlib.Core.List.{List, [], ◌∷◌, ◌++◌}
use mathlib.Core.Bool.{Bool, true, false}
use lib.ListN.{length, get_or, take, drop, replicate, length-drop}
use lib.Seq.{take_at, drop_at}
use Rattle.model.specs.Cube.{Header}
use Rattle.format.specs.Bytes.{Bytes, header_len, bit_of, bits, read_header, weigh, octet, header_bytes, write_header, any_bit}

-- positions
pub length-bits : (bs : List ℕ) → length (bits bs) ≡ 8 * length bs
length-bits [] = refl
length-bits (b ∷ bs) = let ih = length-bits bs in omega arith

-- FORMAT 13: a position's byte, and its weight there
pub bit_at : (bs : List ℕ) (p : ℕ) → p < 8 * length bs → get_or (bits bs) p false ≡ bit_of (get_or bs (p / 8) 0 / 2 ^ (7 - p % 8) % 2)
bit_at [] p h = absurd (omega arith)
bit_at (b ∷ bs) zero h = refl
bit_at (b ∷ bs) (suc zero) h = refl
bit_at (b ∷ bs) (suc (suc zero)) h = refl
bit_at (b ∷ bs) (suc (suc (suc zero))) h = refl
bit_at (b ∷ bs) (suc (suc (suc (suc zero)))) h = refl
bit_at (b ∷ bs) (suc (suc (suc (suc (suc zero))))) h = refl
bit_at (b ∷ bs) (suc (suc (suc (suc (suc (suc zero)))))) h = refl
bit_at (b ∷ bs) (suc (suc (suc (suc (suc (suc (suc zero))))))) h = ap (λ (x : ℕ). bit_of (x % 2)) (sym (div-one b))
bit_at (b ∷ bs) (suc (suc (suc (suc (suc (suc (suc (suc p)))))))) h =
    let q : suc (suc (suc (suc (suc (suc (suc (suc p))))))) / 8 ≡ suc (p / 8) = omega arith in
    let r : suc (suc (suc (suc (suc (suc (suc (suc p))))))) % 8 ≡ p % 8 = omega arith in
    rw (q, r) (bit_at bs p (omega arith))

-- a bit's weight in a byte, a multiple of its weight alone
weigh-le : (n : ℕ) (b : Bool) → weigh n b ≤ n
weigh-le n true = omega arith
weigh-le n false = omega arith

weigh-times : (n : ℕ) (b : Bool) → weigh n b ≡ n * weigh 1 b
weigh-times n true = omega arith
weigh-times n false = omega arith

bit-weight : (b : Bool) → bit_of (weigh 1 b) ≡ b
bit-weight true = refl
bit-weight false = refl

abbrev sum : ℕ → ℕ → ℕ → ℕ → ℕ → ℕ → ℕ → ℕ → ℕ
sum a b c d e f g h = 128 * a + 64 * b + 32 * c + 16 * d + 8 * e + 4 * f + 2 * g + h

digits : (a b c d e f g h : ℕ) → a ≤ 1 → b ≤ 1 → c ≤ 1 → d ≤ 1 → e ≤ 1 → f ≤ 1 → g ≤ 1 → h ≤ 1
    → (sum a b c d e f g h / 128 % 2 ≡ a) × (sum a b c d e f g h / 64 % 2 ≡ b) × (sum a b c d e f g h / 32 % 2 ≡ c)
    × (sum a b c d e f g h / 16 % 2 ≡ d) × (sum a b c d e f g h / 8 % 2 ≡ e) × (sum a b c d e f g h / 4 % 2 ≡ f)
    × (sum a b c d e f g h / 2 % 2 ≡ g) × (sum a b c d e f g h % 2 ≡ h)
digits a b c d e f g h ha hb hc hd he hf hg hh = omega arith

-- the byte of eight bits
module _ (h : Header) where
  abbrev bit : ℕ → Bool
  bit i = get_or h i false

  abbrev one : ℕ → ℕ
  one i = weigh 1 (bit i)

  le : (i : ℕ) → one i ≤ 1
  le i = weigh-le 1 (bit i)

  octet-bits : (bs : List ℕ) → bits (octet h ∷ bs) ≡ bit 0 ∷ bit 1 ∷ bit 2 ∷ bit 3 ∷ bit 4 ∷ bit 5 ∷ bit 6 ∷ bit 7 ∷ bits bs
  octet-bits bs =
      let n = digits (one 0) (one 1) (one 2) (one 3) (one 4) (one 5) (one 6) (one 7) (le 0) (le 1) (le 2) (le 3) (le 4) (le 5) (le 6) (le 7) in
      rw (weigh-times 128 (bit 0), weigh-times 64 (bit 1), weigh-times 32 (bit 2), weigh-times 16 (bit 3))
      (rw (weigh-times 8 (bit 4), weigh-times 4 (bit 5), weigh-times 2 (bit 6))
      (rw (n.0, n.1, n.2, n.3, n.4, n.5, n.6, n.7)
      (simp bit-weight)))

  octet-lt : octet h < 256
  octet-lt =
      omega (arith, weigh-le 128 (bit 0), weigh-le 64 (bit 1), weigh-le 32 (bit 2), weigh-le 16 (bit 3), weigh-le 8 (bit 4), weigh-le 4 (bit 5), weigh-le 2 (bit 6), le 7)

-- m bits: those of h, and zeros behind them
filled : ℕ → Header → Header
filled m h = h ++ replicate (m - length h) false

filled_next : (m k : ℕ) (h : Header) → filled (suc m) (drop k h) ≡ get_or h k false ∷ filled m (drop (suc k) h)
unfolding filled
filled_next m zero [] = let e : suc m - 0 ≡ suc (m - 0) = omega arith in rw e
filled_next m zero (b ∷ h) = rw suc-sub-suc
filled_next m (suc k) [] = let e : suc m - 0 ≡ suc (m - 0) = omega arith in rw e
filled_next m (suc k) (b ∷ h) = filled_next m k h

bits-filled : (n : ℕ) (h : Header) → length h ≤ 8 * n → bits (header_bytes n h) ≡ filled (8 * n) h
unfolding header_bytes
bits-filled zero [] l = unfold filled in refl
bits-filled zero (b ∷ h) l = absurd (omega arith)
bits-filled (suc n) h l =
    let e : 8 * suc n ≡ suc (suc (suc (suc (suc (suc (suc (suc (8 * n)))))))) = omega arith in
    let m : length (drop 8 h) ≤ 8 * n = simp length-drop (omega arith) in
    octet-bits h (header_bytes n (drop 8 h))
    ∙ rw (bits-filled n (drop 8 h) m, e)
    (rw (filled_next _ 0 h, filled_next _ 1 h, filled_next _ 2 h, filled_next _ 3 h)
    (rw (filled_next _ 4 h, filled_next _ 5 h, filled_next _ 6 h, filled_next _ 7 h)))

pub bits-written : (n : ℕ) (h : Header) → length h ≤ 8 * n → bits (header_bytes n h) ≡ h ++ replicate (8 * n - length h) false
unfolding filled
bits-written = bits-filled

pub header-length : (n : ℕ) (h : Header) → length (header_bytes n h) ≡ n
unfolding header_bytes
header-length zero h = refl
header-length (suc n) h = ap suc (header-length n (drop 8 h))

pub header-bytes : (n : ℕ) (h : Header) → Bytes (header_bytes n h)
unfolding header_bytes
header-bytes zero h = tt
header-bytes (suc n) h = (octet-lt h, header-bytes n (drop 8 h))

pub read-written : (h : Header) → read_header (length h) (write_header h) ≡ h
unfolding read_header
read-written h =
    ap (take (length h)) (bits-written (header_len (length h)) h (omega arith)) ∙ take_at h (replicate (8 * header_len (length h) - length h) false) (length h) refl

no-bit : (n : ℕ) → any_bit (replicate n false) ≡ false
no-bit zero = refl
no-bit (suc n) = no-bit n

pub header-accepted : (h : Header) → (length (write_header h) ≡ header_len (length h)) × (any_bit (drop (length h) (bits (write_header h))) ≡ false)
header-accepted h =
    let spare = 8 * header_len (length h) - length h in (
      header-length (header_len (length h)) h,
      rw (bits-written (header_len (length h)) h (omega arith), drop_at h (replicate spare false) (length h) refl) (no-bit spare),
    )
