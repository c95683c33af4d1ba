-- The bits of header bytes, and where one is set.
--   bits-append     the bits of bytes behind bytes
--   ones-after      whether a bit of a byte is set from its q-th place on
--   none_after      no bit is set behind the last byte
--   some_after      a bit is set from a position on exactly when one is in the rest of its byte or in the bytes after
use mathlib.Core.Path.{◌≡◌, refl, sym, ap, ◌∙◌}
use mathlib.Core.List.{List, [], ◌∷◌, ◌++◌}
use mathlib.Core.Bool.{Bool, false, not, ◌||◌, or_assoc}
use Prim.Native.Nat.{ℕ, suc, ◌/◌, ◌%◌, ◌^◌, ◌≤◌, ◌<◌}
use native.Mathlib.Omega.{arith}
use lib.Bits.{bit_and}
use lib.Dec.{eqb}
use lib.ListN.{length, get_or, take, drop, drop_of_length-le}
use lib.Seq.{length-take-le}
use Rattle.model.specs.Cube.{Header}
use Rattle.format.specs.Bytes.{bit_of, bits, any_bit}
use Rattle.format.proofs.Heading.{length-bits}
use Rattle.cube.proofs.Every.{below2, agree, agree-eq}
use Rattle.cube.proofs.Parts.{drop-parts}

pub bits-append : (a b : List ℕ) → bits (a ++ b) ≡ bits a ++ bits b
bits-append [] b = refl
bits-append (x ∷ a) b =
    ap (λ (h : Header). bit_of (x / 128 % 2) ∷ bit_of (x / 64 % 2) ∷ bit_of (x / 32 % 2) ∷ bit_of (x / 16 % 2)
    ∷ bit_of (x / 8 % 2) ∷ bit_of (x / 4 % 2) ∷ bit_of (x / 2 % 2) ∷ bit_of (x % 2) ∷ h) (bits-append a b)

any_append : (a b : Header) → any_bit (a ++ b) ≡ any_bit a || any_bit b
any_append [] b = refl
any_append (x ∷ a) b = ap (λ (t : Bool). x || t) (any_append a b) ∙ sym (or_assoc x (any_bit a) (any_bit b))

-- the last bits of a byte are those that a row of ones leaves
pub ones-after : (q b : ℕ) → q < 8 → b < 256 → not (eqb (bit_and b (255 / 2 ^ q)) 0) ≡ any_bit (drop q (bits (b ∷ [])))
ones-after q b h k =
    agree-eq (not (eqb (bit_and b (255 / 2 ^ q)) 0)) (any_bit (drop q (bits (b ∷ []))))
    (below2 8 256 (λ j x. agree (not (eqb (bit_and x (255 / 2 ^ j)) 0)) (any_bit (drop j (bits (x ∷ []))))) tt q b h k)

pub none_after : (used : ℕ) (h : List ℕ) → length h ≤ used / 8 → false ≡ any_bit (drop used (bits h))
none_after used h l =
    let k = length-bits h in
    rw (drop_of_length-le (bits h) {i = used} (omega arith))

pub some_after : (used : ℕ) (h : List ℕ) → used / 8 < length h
    → any_bit (drop (used % 8) (bits (get_or h (used / 8) 0 ∷ []))) || any_bit (bits (drop (suc (used / 8)) h)) ≡ any_bit (drop used (bits h))
some_after used h l =
    let k = length-bits (take (used / 8) h) in
    let n = length-take-le (used / 8) h (omega arith) in
    sym (any_append (drop (used % 8) (bits (get_or h (used / 8) 0 ∷ []))) (bits (drop (suc (used / 8)) h)))
    ∙ ap any_bit (sym (drop-parts bits bits-append h (used / 8) (used % 8) l (omega arith) used (omega arith)))
