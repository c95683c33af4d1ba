-- The header that a piece shows, byte by byte.
--   half-right, byte-right, mask-right   what a cube's byte shows, what two show, and a byte's last bits
--   whole, pair              all that a piece shows, and two bytes of it
--   shown-fits               where there is room, the header stands over the front of the buffer
--   show-wide, show-short    nothing is written of a header that is too wide or has no room
--   show-turn                one whole byte more of the header is written
--   show-even, show-odd      the header is written where its last byte is whole, and where it is not
use Prim.Native.Nat.{ℕ, zero, suc, ◌+◌, ◌-◌, ◌*◌, ◌/◌, ◌%◌, ◌^◌, ◌≤◌, ◌<◌}
use native.Mathlib.Omega.{arith}
use native.Mathlib.Numerals.{add-one}
use mathlib.Core.Path.{◌≡◌, refl, sym, ap, ap₂, ◌∙◌}
use mathlib.Core.Bool.{Bool, true, false}
use mathlib.Core.List.{List, [], ◌∷◌, ◌++◌}
use lib.Bits.{bit_and, bit_or, bit_xor}
use lib.Dec.{eqb, eqb→eq}
use lib.ListN.{length, get_or, set, take, drop}
use lib.Seq.{length-take-le, take-append-le, drop-cons, get_or-take, drop-drop}
use borrow.Author.Tests.{le-leb, lt-leb}
use Rattle.model.specs.Cube.{Header, Cube, shown_bit, shown}
use Rattle.model.proofs.Cubes.{length-shown}
use Rattle.format.specs.Limits.{widest, widest_cube, widest_header}
use Rattle.format.specs.Bytes.{code_of, codes, weigh, bits, octet, header_len, header_bytes, write_header}
use Rattle.format.specs.Told.{over}
use Rattle.format.proofs.Coding.{length-codes}
use Rattle.format.proofs.Heading.{header-length, header-bytes, bits-written}
use Rattle.cube.specs.Shown.{show_into}
use Rattle.cube.proofs.Every.{below, below2}
use Rattle.cube.proofs.Codes.{codes-drop}
use Rattle.cube.proofs.Parts.{drop-take}
use Rattle.cube.proofs.Laying.{put-fits, put-long, over-byte}

-- bytes
-- the bits at the even places of m, together
abbrev half : ℕ → ℕ
half m = bit_or (bit_or (bit_or (bit_and (m / 8) 8) (bit_and (m / 4) 4)) (bit_and (m / 2) 2)) (bit_and m 1)

abbrev ones : ℕ → ℕ
ones x = bit_and (bit_and (x / 2) (bit_xor x 255)) 85

pub half-right : (x : ℕ) → x < 256 → (half (ones x) * 16 ≡ octet (shown (codes (x ∷ [])))) × (half (ones x) < 16)
unfolding header_bytes
half-right x h =
    let e = eqb→eq (half (ones x) * 16) (octet (shown (codes (x ∷ [])))) (below 256 (λ k. eqb (half (ones k) * 16) (octet (shown (codes (k ∷ []))))) tt x h) in
    (e, omega (arith, (header-bytes 1 (shown (codes (x ∷ [])))).0))

weigh-16 : (b : Bool) → (weigh 128 b ≡ 16 * weigh 8 b) × (weigh 64 b ≡ 16 * weigh 4 b) × (weigh 32 b ≡ 16 * weigh 2 b) × (weigh 16 b ≡ 16 * weigh 1 b)
weigh-16 true = (refl, refl, refl, refl)
weigh-16 false = (refl, refl, refl, refl)

eight : (a b c d e f g h : Bool) (m n : ℕ) → m * 16 ≡ octet (a ∷ b ∷ c ∷ d ∷ []) → n * 16 ≡ octet (e ∷ f ∷ g ∷ h ∷ []) → m * 16 + n ≡ octet (a ∷ b ∷ c ∷ d ∷ e ∷ f ∷ g ∷ h ∷ [])
eight a b c d e f g h m n p q = omega (arith, (weigh-16 e).0, (weigh-16 f).1, (weigh-16 g).2, (weigh-16 h).3)

pub byte-right : (x y m n : ℕ) → m * 16 ≡ octet (shown (codes (x ∷ []))) → n * 16 ≡ octet (shown (codes (y ∷ []))) → m * 16 + n ≡ octet (shown (codes (x ∷ y ∷ [])))
byte-right x y m n p q =
    eight (shown_bit (code_of (x / 64 % 4))) (shown_bit (code_of (x / 16 % 4))) (shown_bit (code_of (x / 4 % 4))) (shown_bit (code_of (x % 4)))
    (shown_bit (code_of (y / 64 % 4))) (shown_bit (code_of (y / 16 % 4))) (shown_bit (code_of (y / 4 % 4))) (shown_bit (code_of (y % 4))) m n p q

-- the last bits of a byte
pub mask-right : (b n : ℕ) → b < 256 → n < 8 → bit_and b (255 / 2 ^ n) ≡ b % 2 ^ (8 - n)
mask-right b n h l = eqb→eq (bit_and b (255 / 2 ^ n)) (b % 2 ^ (8 - n)) (below2 8 256 (λ j x. eqb (bit_and x (255 / 2 ^ j)) (x % 2 ^ (8 - j))) tt n b l h)

-- the front of eight bits
front-byte : (b n : ℕ) → b < 256 → n < 8 → b - b % 2 ^ (8 - n) ≡ octet (take n (bits (b ∷ [])))
front-byte b n h l =
    eqb→eq (b - b % 2 ^ (8 - n)) (octet (take n (bits (b ∷ []))))
    (below2 8 256 (λ j x. eqb (x - x % 2 ^ (8 - j)) (octet (take j (bits (x ∷ []))))) tt n b l h)

front-right : (a b c d e f g h : Bool) (n : ℕ) → n < 8
    → octet (a ∷ b ∷ c ∷ d ∷ e ∷ f ∷ g ∷ h ∷ []) - octet (a ∷ b ∷ c ∷ d ∷ e ∷ f ∷ g ∷ h ∷ []) % 2 ^ (8 - n) ≡ octet (take n (a ∷ b ∷ c ∷ d ∷ e ∷ f ∷ g ∷ h ∷ []))
unfolding header_bytes
front-right a b c d e f g h n l =
    let bs : Header = a ∷ b ∷ c ∷ d ∷ e ∷ f ∷ g ∷ h ∷ [] in
    front-byte (octet bs) n (header-bytes 1 bs).0 l ∙ ap (λ (z : Header). octet (take n z)) (bits-written 1 bs (omega arith))

-- headers
shown-take : (n : ℕ) (c : Cube) → shown (take n c) ≡ take n (shown c)
shown-take zero c = refl
shown-take (suc n) [] = refl
shown-take (suc n) (x ∷ c) = ap (λ (h : Header). shown_bit x ∷ h) (shown-take n c)

shown-drop : (n : ℕ) (c : Cube) → shown (drop n c) ≡ drop n (shown c)
shown-drop zero c = refl
shown-drop (suc n) [] = refl
shown-drop (suc n) (x ∷ c) = shown-drop n c

header-snoc : (n : ℕ) (h : Header) → header_bytes (suc n) h ≡ header_bytes n h ++ (octet (drop (8 * n) h) ∷ [])
unfolding header_bytes
header-snoc zero h = refl
header-snoc (suc n) h =
    let e : 8 * suc n ≡ 8 + 8 * n = omega arith in
    ap (λ (l : List ℕ). octet h ∷ l) (header-snoc n (drop 8 h) ∙ rw (e, ← drop-drop (8 * n) 8 h))

octet-take : (n : ℕ) (h : Header) → octet (take (8 + n) h) ≡ octet h
octet-take n h =
    rw (get_or-take (8 + n) h 0 false (omega arith), get_or-take (8 + n) h 1 false (omega arith), get_or-take (8 + n) h 2 false (omega arith), get_or-take (8 + n) h 3 false (omega arith))
    (rw (get_or-take (8 + n) h 4 false (omega arith), get_or-take (8 + n) h 5 false (omega arith), get_or-take (8 + n) h 6 false (omega arith), get_or-take (8 + n) h 7 false (omega arith)))

header-take : (n k : ℕ) (h : Header) → header_bytes n (take (8 * n + k) h) ≡ header_bytes n h
unfolding header_bytes
header-take zero k h = refl
header-take (suc n) k h =
    let e : 8 * suc n + k ≡ 8 + (8 * n + k) = omega arith in
    rw e (ap₂ (λ (b : ℕ) (bs : List ℕ). b ∷ bs) (octet-take (8 * n + k) h) (ap (header_bytes n) (drop-take 8 (8 * n + k) h) ∙ header-take n k (drop 8 h)))

take-eight : (a b c d e f g h : Bool) (r : Header) (n : ℕ) → n < 8 → take n (a ∷ b ∷ c ∷ d ∷ e ∷ f ∷ g ∷ h ∷ r) ≡ take n (a ∷ b ∷ c ∷ d ∷ e ∷ f ∷ g ∷ h ∷ [])
take-eight a b c d e f g h r n l = take-append-le n (a ∷ b ∷ c ∷ d ∷ e ∷ f ∷ g ∷ h ∷ []) r (omega arith)

-- a piece: all that it shows, and two bytes of it
abbrev pub whole : List ℕ → Header
whole piece = shown (codes piece)

abbrev pub pair : List ℕ → ℕ → List ℕ
pair piece j = get_or piece (2 * j) 0 ∷ get_or piece (2 * j + 1) 0 ∷ []

pub show-wide : (piece old : List ℕ) (w : ℕ) → widest < w → old ≡ show_into piece w old
unfolding show_into
show-wide piece old w h = rw (lt-leb w widest h)

module _ (piece : List ℕ) (long : length piece ≡ widest_cube) where
  from-pair : (j : ℕ) → j < widest_header
      → drop (8 * j) (whole piece) ≡ shown (codes (get_or piece (2 * j) 0 ∷ get_or piece (2 * j + 1) 0 ∷ drop (suc (suc (2 * j))) piece))
  from-pair j h =
      let e : 8 * j ≡ 4 * (2 * j) = omega arith in
      let k : 2 * j < length piece = omega arith in
      let l : suc (2 * j) < length piece = omega arith in
      rw (e, ← shown-drop, ← codes-drop, add-one) (ap (λ (bs : List ℕ). shown (codes bs)) (drop-cons piece (2 * j) 0 k ∙ ap (λ (bs : List ℕ). get_or piece (2 * j) 0 ∷ bs) (drop-cons piece (suc (2 * j)) 0 l)))

  -- a whole byte more is written
  pub show-turn : (old : List ℕ) (j v : ℕ) → j < widest_header → j < length old → v ≡ octet (shown (codes (pair piece j)))
      → set (over old (header_bytes j (whole piece))) j v ≡ over old (header_bytes (j + 1) (whole piece))
  show-turn old j v h l e =
      let s : octet (drop (8 * j) (whole piece)) ≡ v = ap octet (from-pair j h) ∙ sym e in
      over-byte old (header_bytes j (whole piece)) v j (header-length j (whole piece)) l ∙ rw (add-one, header-snoc j (whole piece), s)

  written : (w : ℕ) → w ≤ widest → write_header (shown (take w (codes piece))) ≡ header_bytes (header_len w) (take w (whole piece))
  written w h =
      let l : length (shown (take w (codes piece))) ≡ w = length-shown (take w (codes piece)) ∙ length-take-le w (codes piece) (omega (arith, length-codes piece)) in
      rw (l, shown-take)

  module _ (old : List ℕ) (w : ℕ) (h : w ≤ widest) where
    size : length (write_header (shown (take w (codes piece)))) ≡ header_len w
    size = ap length (written w h) ∙ header-length (header_len w) (take w (whole piece))

    pub shown-fits : header_len w ≤ length old → show_into piece w old ≡ over old (write_header (shown (take w (codes piece))))
    unfolding show_into
    shown-fits l = rw (le-leb w widest h) (put-fits old 0 (write_header (shown (take w (codes piece)))) (omega (arith, size)))

    pub show-short : length old < header_len w → old ≡ show_into piece w old
    unfolding show_into
    show-short l = rw (le-leb w widest h) (sym (put-long old 0 (write_header (shown (take w (codes piece)))) (omega (arith, size))))

  -- no position is left over
  pub show-even : (old : List ℕ) (w : ℕ) → w ≤ widest → header_len w ≤ length old → w % 8 ≡ 0
      → over old (header_bytes (w / 8) (whole piece)) ≡ show_into piece w old
  show-even old w h l e =
      let n : header_len w ≡ w / 8 = omega arith in
      let m : w ≡ 8 * (w / 8) + 0 = omega arith in
      ap (over old)
      (sym (written w h ∙ ap₂ (λ (a b : ℕ). header_bytes a (take b (whole piece))) n m ∙ header-take (w / 8) 0 (whole piece)))
      ∙ sym (shown-fits old w h l)

  -- some are, and the byte's other bits are zero
  last_byte : (q r v : ℕ) → q < widest_header → r < 8 → v ≡ octet (shown (codes (pair piece q)))
      → v - v % 2 ^ (8 - r) ≡ octet (take r (drop (8 * q) (whole piece)))
  last_byte q r v h l e =
      let x = get_or piece (2 * q) 0 in
      let y = get_or piece (2 * q + 1) 0 in
      let a = shown_bit (code_of (x / 64 % 4)) in
      let b = shown_bit (code_of (x / 16 % 4)) in
      let c = shown_bit (code_of (x / 4 % 4)) in
      let d = shown_bit (code_of (x % 4)) in
      let s = shown_bit (code_of (y / 64 % 4)) in
      let t = shown_bit (code_of (y / 16 % 4)) in
      let u = shown_bit (code_of (y / 4 % 4)) in
      let z = shown_bit (code_of (y % 4)) in
      rw e (front-right a b c d s t u z r l) ∙ sym (ap octet (ap (take r) (from-pair q h) ∙ take-eight a b c d s t u z (shown (codes (drop (suc (suc (2 * q))) piece))) r l))

  pub show-odd : (old : List ℕ) (w v : ℕ) → w ≤ widest → header_len w ≤ length old → (w % 8 ≡ 0 → ⊥)
      → v ≡ octet (shown (codes (pair piece (w / 8))))
      → set (over old (header_bytes (w / 8) (whole piece))) (w / 8) (v - v % 2 ^ (8 - w % 8)) ≡ show_into piece w old
  show-odd old w v h l e f =
      let n : header_len w ≡ suc (w / 8) = omega arith in
      let m : w ≡ 8 * (w / 8) + w % 8 = omega arith in
      let b = last_byte (w / 8) (w % 8) v (omega arith) (omega arith) f in
      over-byte old (header_bytes (w / 8) (whole piece)) (v - v % 2 ^ (8 - w % 8)) (w / 8) (header-length (w / 8) (whole piece)) (omega arith)
      ∙ ap (over old)
      (sym
      (written w h
      ∙ ap₂ (λ (a b : ℕ). header_bytes a (take b (whole piece))) n m
      ∙ header-snoc (w / 8) (take (8 * (w / 8) + w % 8) (whole piece))
      ∙ ap₂ (λ (bs : List ℕ) (x : ℕ). bs ++ (x ∷ [])) (header-take (w / 8) (w % 8) (whole piece))
      (ap octet (drop-take (8 * (w / 8)) (w % 8) (whole piece)) ∙ sym b)))
      ∙ sym (shown-fits old w h l)
