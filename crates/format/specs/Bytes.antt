-- What the bytes of a header and of a cube mean.
--   Bytes bs                    == every number of bs is a byte
--   header_len w, cube_len w      == how many bytes a header and a cube of w positions take
--   unused w                    == how many places of a cube of w positions hold no position
--   bit_of n                     == whether a number is not 0
--   bits bs                     == the bits of bytes, eight to a byte, the one of weight 128 first
--   read_header w bs             == the header of w positions in bs
--   weigh n b, octet h          == n where b is set, else 0; the byte of the first eight bits
--   header_bytes n h             == the first n bytes of a header
--   write_header h               == the bytes of the header h, unused bits zero
--   any_bit bs                   == some bit is set
--   code_of n, number_of x        == the code of a number, the number of a code
--   codes bs                    == the codes of bytes, four to a byte, the one of weight 64 first
--   read_cube w bs               == the cube of w positions in bs
--   quad c, cube_bytes n c       == the byte of the first four codes, and the first n bytes of a cube, with 3 where c has no code
--   write_cube c                 == the bytes of the cube c, unused places 3
--   is_free x, all_free c         == the code x is 3; every code of c is
--   cube_rows w bs, lent_rows w bs == the tests of the two lines below
--   cube_fault w bs              == what is wrong with the cube of w positions in as many bytes as it takes: 13, 14, or 0
--   lent_fault w bs              == the same of a lent cube, whose length may be wrong: 12, 13, 14, or 0
use Rattle.std.specs.Prelude.{ℕ, zero, suc, ◌+◌, ◌-◌, ◌*◌, ◌/◌, ◌%◌, ◌<◌, List, [], ◌∷◌, Bool, true, false, not, ◌&&◌, ◌||◌, cond, length, get_or, take, drop}
use Rattle.model.specs.Cube.{Header, Code, none, v0, v1, free, Cube, solid}
use Rattle.format.specs.Rows.{Rows, last, row, isnt, so, outcome}

abbrev pub Bytes : List ℕ → Type 0
Bytes [] = Unit {0}
Bytes (b ∷ bs) = (b < 256) × Bytes bs

-- FORMAT 12
abbrev pub header_len : ℕ → ℕ
header_len w = (w + 7) / 8

-- FORMAT 15
abbrev pub cube_len : ℕ → ℕ
cube_len w = (w + 3) / 4

-- FORMAT 18
abbrev pub unused : ℕ → ℕ
unused w = 4 * cube_len w - w

abbrev pub bit_of : ℕ → Bool
bit_of zero = false
bit_of (suc n) = true

-- FORMAT 13
abbrev pub bits : List ℕ → Header
bits [] = []
bits (b ∷ bs) =
    bit_of (b / 128 % 2) ∷ bit_of (b / 64 % 2) ∷ bit_of (b / 32 % 2) ∷ bit_of (b / 16 % 2)
    ∷ bit_of (b / 8 % 2) ∷ bit_of (b / 4 % 2) ∷ bit_of (b / 2 % 2) ∷ bit_of (b % 2) ∷ bits bs

unfoldable pub read_header : ℕ → List ℕ → Header
read_header w bs = take w (bits bs)

abbrev pub weigh : ℕ → Bool → ℕ
weigh n b = cond b n 0

-- FORMAT 13; zero where there are fewer than eight bits (FORMAT 14)
abbrev pub octet : Header → ℕ
octet h =
    weigh 128 (get_or h 0 false) + weigh 64 (get_or h 1 false) + weigh 32 (get_or h 2 false) + weigh 16 (get_or h 3 false)
    + weigh 8 (get_or h 4 false) + weigh 4 (get_or h 5 false) + weigh 2 (get_or h 6 false) + weigh 1 (get_or h 7 false)

unfoldable pub header_bytes : ℕ → Header → List ℕ
header_bytes zero h = []
header_bytes (suc n) h = octet h ∷ header_bytes n (drop 8 h)

-- FORMAT 12 to 14
abbrev pub write_header : Header → List ℕ
write_header h = header_bytes (header_len (length h)) h

abbrev pub any_bit : Header → Bool
any_bit [] = false
any_bit (b ∷ h) = b || any_bit h

-- FORMAT 17
abbrev pub code_of : ℕ → Code
code_of zero = none
code_of (suc zero) = v0
code_of (suc (suc zero)) = v1
code_of (suc (suc (suc n))) = free

-- FORMAT 17
abbrev pub number_of : Code → ℕ
number_of none = 0
number_of v0 = 1
number_of v1 = 2
number_of free = 3

-- FORMAT 16
abbrev pub codes : List ℕ → Cube
codes [] = []
codes (b ∷ bs) = code_of (b / 64 % 4) ∷ code_of (b / 16 % 4) ∷ code_of (b / 4 % 4) ∷ code_of (b % 4) ∷ codes bs

unfoldable pub read_cube : ℕ → List ℕ → Cube
read_cube w bs = take w (codes bs)

-- FORMAT 16: the byte of the first four codes; 3 where there is none (FORMAT 18)
abbrev pub quad : Cube → ℕ
quad c = 64 * number_of (get_or c 0 free) + 16 * number_of (get_or c 1 free) + 4 * number_of (get_or c 2 free) + number_of (get_or c 3 free)

unfoldable pub cube_bytes : ℕ → Cube → List ℕ
cube_bytes zero c = []
cube_bytes (suc n) c = quad c ∷ cube_bytes n (drop 4 c)

-- FORMAT 15 to 18
abbrev pub write_cube : Cube → List ℕ
write_cube c = cube_bytes (cube_len (length c)) c

abbrev pub is_free : Code → Bool
is_free none = false
is_free v0 = false
is_free v1 = false
is_free free = true

abbrev pub all_free : Cube → Bool
all_free [] = true
all_free (x ∷ c) = is_free x && all_free c

-- FORMAT 17, 38, 39, in the order of 60
abbrev pub cube_rows : ℕ → List ℕ → Rows ℕ
cube_rows w bs =
    row (so (not (solid (read_cube w bs)))) 13
    (row (so (not (all_free (drop w (codes bs))))) 14
    (last 0))

unfoldable pub cube_fault : ℕ → List ℕ → ℕ
cube_fault w bs = outcome (cube_rows w bs)

-- FORMAT 37, in the order of 61
abbrev pub lent_rows : ℕ → List ℕ → Rows ℕ
lent_rows w bs =
    row (isnt (length bs) (cube_len w)) 12
    (cube_rows w bs)

unfoldable pub lent_fault : ℕ → List ℕ → ℕ
lent_fault w bs = outcome (lent_rows w bs)
