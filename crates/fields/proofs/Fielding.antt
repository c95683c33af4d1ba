-- The cubes of prefix constraints and of equality of fields, position by position, and as bytes.
--   prefix-none, prefix-more    no position fixed yet, and one more
--   bit-code            the code of a bit
--   prefix-size, prefix-bytes    how many bytes a prefix cube takes, and which
--   apart-bytes         the bytes of a cube with two codes
--   free_bytes          the bytes of a cube with free positions alone
--   cuts-more           the cuts of one position more
--   cut-length, cuts-length, cuts-room    how many bytes a cut and the cuts take, and that two more fit
--   pairs-few, equal-cuts, equal-bytes, equal-size   the cuts and the record of an equality
--   equal-room          the record of an equality fits
--   lent-bytes          a part that was lent and came back holds bytes
use Prim.Native.Nat.{ℕ, zero, suc, ◌+◌, ◌-◌, ◌*◌, ◌≤◌, ◌<◌}
use native.Mathlib.Nat.{mul-le-mul_right, add-zero}
use native.Mathlib.Numerals.{add-one}
use native.Mathlib.Omega.{arith}
use mathlib.Core.Path.{◌≡◌, refl, sym, ap, ◌∙◌}
use mathlib.Core.List.{List, [], ◌∷◌, ◌++◌, map, map-append, append-nil, append_assoc}
use mathlib.Core.Bool.{Bool, true, false, cond}
use lib.Dec.{eqb}
use lib.ListN.{length, get_or, take, drop, set, replicate, length-append, length-map, length-set, length-replicate, replicate-append-replicate}
use lib.Seq.{take-suc, set_at, set-append_left, length-take-le}
use borrow.Rule.Slice.PartMut.{put_mid}
use Rattle.model.specs.Cube.{Header, Code, v0, v1, free, Cube}
use Rattle.model.specs.Fields.{bit_code, prefix_cube, apart, unequal, fields_equal}
use Rattle.model.proofs.Field.{prefix-length, equal-count}
use Rattle.model.specs.Padding.{pad}
use Rattle.format.specs.Limits.{widest, widest_cube, most_cuts}
use Rattle.format.specs.Bytes.{Bytes, cube_len, bit_of, code_of, codes, write_cube, unused}
use Rattle.format.specs.Records.{front_len, cubes_bytes, front_bytes, difference_bytes}
use Rattle.format.proofs.Coding.{write-length, codes-free}
use Rattle.region.specs.Writing.{record_len}
use Rattle.region.proofs.Writing.{all-bytes, front_length, record-len}
use Rattle.fields.specs.Equality.{most_pairs, pairs, equal_bytes}
use Rattle.cube.proofs.Coded.{bytes-are}

frees : (n m k : ℕ) → n + m ≡ k → replicate n free ++ replicate m free ≡ replicate k free
frees n m k e = replicate-append-replicate n m free ∙ ap (λ (i : ℕ). replicate i free) e

-- prefixes
pub prefix-none : (w s : ℕ) (v : Header) → s ≤ w → replicate w free ≡ prefix_cube w s 0 v
unfolding prefix_cube
prefix-none w s v h = sym (frees s (w - (s + 0)) w (omega arith))

pub prefix-more : (w s i : ℕ) (v : Header) → i < length v → s + i < w
    → set (prefix_cube w s i v) (s + i) (bit_code (get_or v i false)) ≡ prefix_cube w s (i + 1) v
unfolding prefix_cube
prefix-more w s i v h l =
    let a = replicate s free in
    let b = map bit_code (take i v) in
    let x = bit_code (get_or v i false) in
    let r = replicate (w - (s + (i + 1))) free in
    let e : w - (s + i) ≡ suc (w - (s + (i + 1))) = omega arith in
    let n : length (a ++ b) ≡ s + i = simp (length-append, length-map, length-replicate) (rw (length-take-le i v (omega arith))) in
    let t : map bit_code (take (i + 1) v) ≡ b ++ (x ∷ []) = rw (add-one, take-suc v i false h) (map-append bit_code (take i v) (get_or v i false ∷ [])) in
    rw (e, t, ← append_assoc a b (free ∷ r), set_at (a ++ b) free r x (s + i) n) (simp append_assoc)

pub bit-code : (b : ℕ) → b < 2 → code_of (b + 1) ≡ bit_code (bit_of b)
bit-code zero h = refl
bit-code (suc zero) h = refl
bit-code (suc (suc b)) h = absurd (omega arith)

pub prefix-size : (w s m : ℕ) (v : Header) → s + m ≤ w → m ≤ length v → length (write_cube (prefix_cube w s m v)) ≡ cube_len w
prefix-size w s m v f g = write-length (cube_len (length (prefix_cube w s m v))) (prefix_cube w s m v) ∙ ap cube_len (prefix-length w s m v f g)

pub prefix-bytes : (w s m : ℕ) (v : Header) (b : List ℕ) → Bytes b → length b ≡ cube_len w → s + m ≤ w → m ≤ length v
    → codes b ≡ prefix_cube (4 * length b) s m v → b ≡ write_cube (prefix_cube w s m v)
prefix-bytes w s m v b h l f g e = bytes-are w b (prefix_cube w s m v) h (prefix-length w s m v f g) (e ∙ padded)
  where
    padded : prefix_cube (4 * length b) s m v ≡ pad (unused w) (prefix_cube w s m v)
    padded =
        unfold prefix_cube in
        rw (l, append_assoc, append_assoc, frees (w - (s + m)) (unused w) (4 * cube_len w - (s + m)) (omega arith))

-- cubes with two codes
wide-free : (w : ℕ) → replicate (4 * cube_len w) free ≡ pad (unused w) (replicate w free)
wide-free w = sym (frees w (unused w) (4 * cube_len w) (omega arith))

length-apart : (w p q : ℕ) (x y : Code) → length (apart w p q x y) ≡ w
length-apart w p q x y = simp (length-set, length-replicate)

pub apart-bytes : (w p q : ℕ) (x y : Code) (b : List ℕ) → Bytes b → length b ≡ cube_len w → p < w → q < w
    → codes b ≡ set (set (replicate (4 * length b) free) p x) q y → b ≡ write_cube (apart w p q x y)
apart-bytes w p q x y b h l f g e =
    let u = replicate (unused w) free in
    let one = set-append_left (replicate w free) u p x (rw (length-replicate w free) f) in
    let two = set-append_left (set (replicate w free) p x) u q y (rw (length-set (replicate w free) p x, length-replicate w free) g) in
    bytes-are w b (apart w p q x y) h (length-apart w p q x y) (rw (l, wide-free w) at e ∙ rw (one, two))

bytes-full : (n : ℕ) → Bytes (replicate n 255)
bytes-full zero = tt
bytes-full (suc n) = (omega arith, bytes-full n)

pub free_bytes : (w : ℕ) → replicate (cube_len w) 255 ≡ write_cube (replicate w free)
free_bytes w =
    let n = cube_len w in
    bytes-are w (replicate n 255) (replicate w free) (bytes-full n) (length-replicate w free) (codes-free n ∙ wide-free w)

-- the cuts of an equality
abbrev pair : ℕ → ℕ → ℕ → List Cube
pair w p q = apart w p q v0 v1 ∷ apart w p q v1 v0 ∷ []

unequal-more : (w p q i : ℕ) → unequal w p q (suc i) ≡ unequal w p q i ++ pair w (p + i) (q + i)
unfolding unequal
unequal-more w p q zero = rw (add-zero p, add-zero q)
unequal-more w p q (suc i) =
    let e : p + suc i ≡ p + 1 + i = omega arith in
    let f : q + suc i ≡ q + 1 + i = omega arith in
    rw (e, f) (ap (λ (l : List Cube). apart w p q v0 v1 ∷ apart w p q v1 v0 ∷ l) (unequal-more w (p + 1) (q + 1) i))

cubes-append : (cs ds : List Cube) → cubes_bytes (cs ++ ds) ≡ cubes_bytes cs ++ cubes_bytes ds
cubes-append [] ds = refl
cubes-append (c ∷ cs) ds = rw (cubes-append cs ds) (sym (append_assoc (write_cube c) (cubes_bytes cs) (cubes_bytes ds)))

pub cuts-more : (w p q i : ℕ) → cubes_bytes (unequal w p q (i + 1))
    ≡ (cubes_bytes (unequal w p q i) ++ write_cube (apart w (p + i) (q + i) v0 v1)) ++ write_cube (apart w (p + i) (q + i) v1 v0)
cuts-more w p q i =
    rw (add-one, unequal-more w p q i, cubes-append (unequal w p q i) (pair w (p + i) (q + i)), append-nil (write_cube (apart w (p + i) (q + i) v1 v0)))
    (sym (append_assoc (cubes_bytes (unequal w p q i)) (write_cube (apart w (p + i) (q + i) v0 v1)) (write_cube (apart w (p + i) (q + i) v1 v0))))

pub cut-length : (w p q : ℕ) (x y : Code) → length (write_cube (apart w p q x y)) ≡ cube_len w
cut-length w p q x y = write-length (cube_len (length (apart w p q x y))) (apart w p q x y) ∙ ap cube_len (length-apart w p q x y)

pub cuts-length : (w p q n : ℕ) → length (cubes_bytes (unequal w p q n)) ≡ 2 * n * cube_len w
unfolding unequal
cuts-length w p q zero = omega arith
cuts-length w p q (suc n) =
    simp length-append (omega (arith, cut-length w p q v0 v1, cut-length w p q v1 v0, cuts-length w (p + 1) (q + 1) n))

pub cuts-room : (i n z l : ℕ) → i < n → 2 * n * z ≤ l → 2 * i * z + 2 * z ≤ l
cuts-room i n z l h r = let e : 2 * i + 2 ≤ 2 * n = omega arith in omega (arith, mul-le-mul_right z e)

pub equal-cuts : (w p q n : ℕ) → length (fields_equal w p q n).cuts ≡ 2 * pairs p q n
unfolding fields_equal
equal-cuts w p q n = go (eqb p q)
  where
    go : (b : Bool) → length (cond b [] (unequal w p q n)) ≡ 2 * cond b 0 n
    go true = refl
    go false = equal-count w p q n

pub equal-bytes : (w p q n : ℕ) → difference_bytes w (fields_equal w p q n) ≡ equal_bytes w p q (pairs p q n)
unfolding difference_bytes fields_equal
equal-bytes w p q n = go (eqb p q)
  where
    go : (b : Bool) → front_bytes (length (cond b [] (unequal w p q n))) (cube_len w) ++ cubes_bytes (replicate w free ∷ cond b [] (unequal w p q n))
        ≡ equal_bytes w p q (cond b 0 n)
    go true = unfold unequal in refl
    go false = rw (equal-count w p q n)

pub pairs-few : (p q n : ℕ) → pairs p q n ≤ n
pairs-few p q n = go (eqb p q)
  where
    go : (b : Bool) → cond b 0 n ≤ n
    go true = omega arith
    go false = omega arith

pub equal-size : (w p q n : ℕ) → 2 * pairs p q n ≤ most_cuts → cube_len w ≤ widest_cube
    → length (difference_bytes w (fields_equal w p q n)) ≡ record_len (2 * pairs p q n) (cube_len w)
equal-size w p q n few short =
    let k = pairs p q n in
    let b : length (write_cube (replicate w free)) ≡ cube_len w = ap length (sym (free_bytes w)) ∙ length-replicate (cube_len w) 255 in
    rw (equal-bytes w p q n, record-len (2 * k) (cube_len w) few short)
    (simp (length-append, front_length) (omega (arith, b, cuts-length w p q k)))

-- a part that was lent and came back holds bytes
bytes-part : (a b c : List ℕ) → Bytes (a ++ (b ++ c)) → Bytes b
bytes-part [] [] c h = tt
bytes-part [] (y ∷ b) c h = (h.0, bytes-part [] b c h.1)
bytes-part (x ∷ a) b c h = bytes-part a b c h.1

pub lent-bytes : (xs ys : List ℕ) (o k : ℕ) → ((i : ℕ) → get_or (put_mid o k xs ys) i 0 < 256) → Bytes ys
lent-bytes xs ys o k h = bytes-part (take o xs) ys (drop k (drop o xs)) (all-bytes (put_mid o k xs ys) h)

-- the record of an equality fits, its front, its base and its cuts
pub equal-room : (n w o q room : ℕ) → n ≤ most_pairs → w ≤ widest → q ≡ cube_len w → o ≡ front_len (2 * n) → record_len (2 * n) (cube_len w) ≤ room
    → o + (2 * n + 1) * q ≤ room
equal-room n w o q room few narrow e f h =
    let some : 2 * n ≤ most_cuts = omega (arith, few) in
    let short : cube_len w ≤ widest_cube = omega (arith, narrow) in
    let whole = rw (record-len (2 * n) (cube_len w) some short) at h in
    omega (arith, rw (← e) at whole, f)
