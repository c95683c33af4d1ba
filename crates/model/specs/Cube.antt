-- Headers and cubes. Position 0 is the leftmost, so the first of each list (FORMAT 11).
--   Header         == the bits of a header, one for each position
--   Code           == what a cube says of a position: nothing fits (none), the value 0 (v0), the value 1 (v1), both fit (free)
--   Cube           == the codes of a cube, one for each position; one that a `none` stands in holds no header
--   admits x b     == the bit b agrees with the code x
--   holds c h      == the header h is in the cube c
--   meet_code x y   == the code that admits what both admit
--   nones c        == as many `none`s as c has positions
--   meet a b       == the cube of the headers that are in both
--   coded x        == the code x is not `none`
--   solid c        == no position of c has the code `none`
--   shares a b     == a and b have a header in common
--   same_code x y   == x and y are the same code
--   same a b       == a and b are the same cube
--   within a b     == a lies in b
--   shown_bit x     == the bit that is shown of a code: 1 for the value 1, else 0
--   shown c        == the header of c with all its free positions 0
use Rattle.std.specs.Prelude.{List, [], ◌∷◌, Bool, true, false, not, ◌&&◌}

-- FORMAT 3, 11
abbrev pub Header : Type 0
Header = List Bool

-- FORMAT 4
pub data Code : Type 0 where
  none v0 v1 free : Code

-- FORMAT 4, 11
abbrev pub Cube : Type 0
Cube = List Code

-- FORMAT 5, at one position
abbrev pub admits : Code → Bool → Bool
admits none b = false
admits v0 b = not b
admits v1 b = b
admits free b = true

-- FORMAT 5
abbrev pub holds : Cube → Header → Bool
holds [] [] = true
holds [] (b ∷ h) = false
holds (x ∷ c) [] = false
holds (x ∷ c) (b ∷ h) = admits x b && holds c h

-- meeting is the AND of the codes, place by place; cubes of unequal length have no header in common
abbrev pub meet_code : Code → Code → Code
meet_code none y = none
meet_code v0 none = none
meet_code v0 v0 = v0
meet_code v0 v1 = none
meet_code v0 free = v0
meet_code v1 none = none
meet_code v1 v0 = none
meet_code v1 v1 = v1
meet_code v1 free = v1
meet_code free y = y

abbrev pub nones : Cube → Cube
nones [] = []
nones (x ∷ c) = none ∷ nones c

-- FORMAT 67
abbrev pub meet : Cube → Cube → Cube
meet [] b = nones b
meet (x ∷ a) [] = none ∷ nones a
meet (x ∷ a) (y ∷ b) = meet_code x y ∷ meet a b

abbrev pub coded : Code → Bool
coded none = false
coded v0 = true
coded v1 = true
coded free = true

abbrev pub solid : Cube → Bool
solid [] = true
solid (x ∷ c) = coded x && solid c

-- FORMAT 67
abbrev pub shares : Cube → Cube → Bool
shares a b = solid (meet a b)

abbrev pub same_code : Code → Code → Bool
same_code none none = true
same_code none v0 = false
same_code none v1 = false
same_code none free = false
same_code v0 none = false
same_code v0 v0 = true
same_code v0 v1 = false
same_code v0 free = false
same_code v1 none = false
same_code v1 v0 = false
same_code v1 v1 = true
same_code v1 free = false
same_code free none = false
same_code free v0 = false
same_code free v1 = false
same_code free free = true

abbrev pub same : Cube → Cube → Bool
same [] [] = true
same [] (y ∷ b) = false
same (x ∷ a) [] = false
same (x ∷ a) (y ∷ b) = same_code x y && same a b

-- FORMAT 68: a lies in b where meeting b changes nothing
abbrev pub within : Cube → Cube → Bool
within a b = same (meet a b) a

abbrev pub shown_bit : Code → Bool
shown_bit none = false
shown_bit v0 = false
shown_bit v1 = true
shown_bit free = false

-- FORMAT 103
abbrev pub shown : Cube → Header
shown [] = []
shown (x ∷ c) = shown_bit x ∷ shown c
