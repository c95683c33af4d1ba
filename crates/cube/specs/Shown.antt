-- The header that a piece shows, written.
--   show_into piece w old    == a buffer that held old, with the header of the piece's first w positions, all free ones 0, over its front; old where w is
--                              above the widest width, or where the header has no room
use Rattle.std.specs.Prelude.{ℕ, List, cond, leb, take}
use Rattle.model.specs.Cube.{shown}
use Rattle.format.specs.Limits.{widest}
use Rattle.format.specs.Bytes.{codes, write_header}
use Rattle.cube.specs.Lay.{put}

unfoldable pub show_into : List ℕ → ℕ → List ℕ → List ℕ
show_into piece w old = cond (leb w widest) (put old 0 (write_header (shown (take w (codes piece))))) old
