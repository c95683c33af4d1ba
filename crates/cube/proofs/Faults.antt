-- What is wrong with a cube's bytes, by parts: the bytes that hold positions alone, the byte that holds the last positions and the first unused places, and
-- the bytes after it.
--   fill q              == a byte whose places from the q-th on are filled
--   byte_rows b ones     == the tests of the byte b whose unused places are filled in `ones`
--   byte-fault, free-byte    what is wrong with a byte of q positions; with one whose places are all 3, nothing
--   short-fault         what is wrong with bytes that hold positions alone
--   part_rows w c        == the tests of the three parts of c
--   cube-parts          they say what is wrong with c
--   lent_length, lent-cube    a lent cube whose length is wrong, and one whose length is right
use mathlib.Core.Path.{◌≡◌, refl, sym, ap, ◌∙◌}
use mathlib.Core.List.{List, [], ◌∷◌}
use mathlib.Core.Bool.{Bool, true, false, not, ◌&&◌, cond}
use Prim.Native.Nat.{ℕ, suc, ◌*◌, ◌/◌, ◌%◌, ◌^◌, ◌≤◌, ◌<◌}
use native.Mathlib.Omega.{arith}
use lib.Bits.{bit_and, bit_or}
use lib.Dec.{eqb, eqb→eq}
use lib.ListN.{length, get_or, take, drop, drop_of_length-le}
use lib.Seq.{take_all, length-take-le}
use borrow.Author.Tests.{eq-eqb}
use Rattle.model.specs.Cube.{solid}
use Rattle.format.specs.Rows.{Rows, last, row, isnt, so, passes, outcome}
use Rattle.format.specs.Bytes.{cube_len, codes, read_cube, all_free, cube_fault, lent_rows, lent_fault}
use Rattle.format.proofs.Reached.{reached}
use Rattle.format.proofs.Coding.{length-codes}
use Rattle.cube.proofs.Every.{below, below2}
use Rattle.cube.proofs.Parts.{take-parts, drop-parts}
use Rattle.cube.proofs.Codes.{codes-append, solid-append, free-append}

-- in a byte so filled the positions alone can hold code 0
abbrev pub fill : ℕ → ℕ
fill q = 255 / 2 ^ (2 * q)

abbrev pub byte_rows : ℕ → ℕ → Rows ℕ
byte_rows b ones =
    row (so (not (solid (codes (bit_or b ones ∷ []))))) 13
    (row (isnt (bit_and b ones) ones) 14
    (last 0))

pub byte-fault : (q b : ℕ) → q < 4 → b < 256 → outcome (byte_rows b (fill q)) ≡ cube_fault q (b ∷ [])
unfolding outcome passes read_cube cube_fault
byte-fault q b h k =
    eqb→eq (outcome (byte_rows b (fill q))) (cube_fault q (b ∷ [])) (below2 4 256 (λ j x. eqb (outcome (byte_rows x (fill j))) (cube_fault j (x ∷ []))) tt q b h k)

pub free-byte : (q b : ℕ) → q < 4 → b ≡ 255 → 0 ≡ cube_fault q (b ∷ [])
unfolding outcome passes read_cube cube_fault
free-byte q b h e = rw e (eqb→eq 0 (cube_fault q (255 ∷ [])) (below 4 (λ j. eqb 0 (cube_fault j (255 ∷ []))) tt q h))

-- no byte past the positions
pub short-fault : (w : ℕ) (c : List ℕ) → length c ≤ w / 4 → (t : Bool) → solid (codes c) ≡ t → cond t 0 13 ≡ cube_fault w c
unfolding outcome passes read_cube cube_fault
short-fault w c h t e =
    let l = length-codes c in
    rw (take_all w (codes c) (omega arith), drop_of_length-le (codes c) {i = w} (omega arith), e) (go t)
  where
    go : (t : Bool) → ◌≡◌ {A = ℕ} (cond t 0 13) (cond (not t) 13 0)
    go true = refl
    go false = refl

-- the bytes that hold four positions each, the byte behind them, and the bytes after it
abbrev pub part_rows : ℕ → List ℕ → Rows ℕ
part_rows w c =
    row (so (not (solid (codes (take (w / 4) c))))) 13
    (row (isnt (cube_fault (w % 4) (get_or c (w / 4) 0 ∷ [])) 0) (cube_fault (w % 4) (get_or c (w / 4) 0 ∷ []))
    (row (so (not (all_free (codes (drop (suc (w / 4)) c))))) 14
    (last 0)))

abbrev number : Bool → Bool → ℕ
number s u = cond (not s) 13 (cond (not u) 14 0)

by_parts : (s t u v : Bool) → number (s && t) (u && v) ≡ cond (not s) 13 (cond (not (eqb (number t u) 0)) (number t u) (cond (not v) 14 0))
by_parts true true true v = refl
by_parts true true false v = refl
by_parts true false u v = refl
by_parts false t u v = refl

pub cube-parts : (w : ℕ) (c : List ℕ) → w / 4 < length c → outcome (part_rows w c) ≡ cube_fault w c
unfolding outcome passes read_cube cube_fault
cube-parts w c h =
    let k = length-codes (take (w / 4) c) in
    let n = length-take-le (w / 4) c (omega arith) in
    let b = codes (get_or c (w / 4) 0 ∷ []) in
    let front = codes (take (w / 4) c) in
    let rest = codes (drop (suc (w / 4)) c) in
    let used = ap solid (take-parts codes codes-append c (w / 4) (w % 4) h (omega arith) w (omega arith)) ∙ solid-append front (take (w % 4) b) in
    let unused = ap all_free (drop-parts codes codes-append c (w / 4) (w % 4) h (omega arith) w (omega arith)) ∙ free-append (drop (w % 4) b) rest in
    sym (rw (used, unused) (by_parts (solid front) (solid (take (w % 4) b)) (all_free (drop (w % 4) b)) (all_free rest)))

-- a lent cube
pub lent_length : (w : ℕ) (c : List ℕ) → (length c ≡ cube_len w → ⊥) → 12 ≡ lent_fault w c
unfolding lent_fault
lent_length w c n = reached 0 (lent_rows w c) n

pub lent-cube : (w : ℕ) (c : List ℕ) → length c ≡ cube_len w → cube_fault w c ≡ lent_fault w c
unfolding outcome passes cube_fault lent_fault
lent-cube w c e = rw (eq-eqb (length c) (cube_len w) e)
