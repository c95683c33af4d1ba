-- Cubes of bytes brought into words, and back.
--   padded-codes             the bytes of a cube with free places behind it
--   holds-none, holds_more, be-holds   a word takes one byte more; it is made of eight bytes
--   words-hold               words that hold 80 bytes have their codes
--   unloaded, word-out       bytes taken out of words have their codes
--   word_more, row_more      one word, and one row, more
--   row-room, row-size       the cut of a row lies in the bytes, and is as long as all
use Prim.Native.Nat.{ℕ, zero, suc, ◌+◌, ◌-◌, ◌*◌, ◌/◌, ◌%◌, ◌^◌, ◌≤◌, ◌<◌}
use native.Mathlib.Nat.{mod-mod, mul-add-mod_self_right, suc-mul, mul-le-mul_right}
use native.Mathlib.Omega.{arith}
use mathlib.Core.Path.{◌≡◌, refl, sym, ap, subst, ◌∙◌}
use mir.Syntax.{w64}
use Rattle.std.specs.Int.{from_be_bytes, to_be_bytes}
use lib.Dec.{lit<}
use mathlib.Core.Logic.{⊎_elim}
use mathlib.Core.List.{List, [], ◌++◌}
use lib.ListN.{length, get_or, set, take, drop, replicate, length-drop, get_or-append}
use lib.Seq.{get_or-set_same, get_or-set_other, length-take-le, get_or-take, get_or-append-add}
use lib.Pow.{pow-add, high, shr-shr}
use Rattle.std.proofs.lemmas.List.{drop-replicate}
use Rattle.model.specs.Padding.{pad}
use Rattle.format.specs.Bytes.{code_of, codes}
use Rattle.format.proofs.Coding.{length-codes, code-at, codes-free}
use Rattle.visits.specs.Words.{place_at, number_in, cube_of_words, row_cube}
use Rattle.visits.specs.Loading.{HoldsBytes, cut_in, Loaded}
use Rattle.cube.specs.declared.row.Row.{Row}
use Rattle.visits.proofs.Digits.{same_or_not, below_or, same_low}
use Rattle.visits.proofs.WordCubes.{words-ext}
use Rattle.cube.proofs.Codes.{below4, codes-append}

-- the bytes of a cube with free places behind it
pub padded-codes : (q : ℕ) (bs : List ℕ) → length bs ≡ q → q ≤ 80 → codes (bs ++ drop {A = ℕ} q (replicate 80 255)) ≡ pad (320 - 4 * q) (codes bs)
padded-codes q bs l h =
    let e : 4 * (80 - q) ≡ 320 - 4 * q = omega arith in
    codes-append bs (drop q (replicate 80 255)) ∙ rw (drop-replicate {X = ℕ} q 80 255, codes-free (80 - q), e)

-- a word takes one byte more
quarters : (d : ℕ) → d < 4 → 4 ^ (3 - d) ≡ 2 ^ (2 * (3 - d))
quarters d h = below4 (λ (d : ℕ). 4 ^ (3 - d) ≡ 2 ^ (2 * (3 - d))) refl refl refl refl d h

pub holds-none : (P : List ℕ) (b : ℕ) → HoldsBytes P 0 b 0
holds-none P b = (omega arith, λ k h. absurd (omega arith))

pub holds_more : (P : List ℕ) (j b x y : ℕ) → y ≡ get_or P (b + j) 0 → y < 256 → HoldsBytes P j b x → HoldsBytes P (j + 1) b (x * 256 + y)
holds_more P j b x y ey small h = (fits, digits)
  where
    fits : x * 256 + y < 2 ^ (8 * (j + 1))
    fits = let e : 8 * (j + 1) ≡ 8 * j + 8 = omega arith in rw (e, pow-add 2 (8 * j) 8) (omega (arith, h.0))

    digits : (k : ℕ) → k < 4 * (j + 1) → (x * 256 + y) / 2 ^ (2 * (4 * (j + 1) - 1 - k)) % 4 ≡ get_or P (b + k / 4) 0 / 4 ^ (3 - k % 4) % 4
    digits k l = ⊎_elim before here (below_or k (4 * j))
      where
        before : k < 4 * j → (x * 256 + y) / 2 ^ (2 * (4 * (j + 1) - 1 - k)) % 4 ≡ get_or P (b + k / 4) 0 / 4 ^ (3 - k % 4) % 4
        before i =
            let e : 2 * (4 * (j + 1) - 1 - k) ≡ 8 + 2 * (4 * j - 1 - k) = omega arith in
            rw (e, ← shr-shr (x * 256 + y) 8 (2 * (4 * j - 1 - k)), high x 8 {lo = y} small) (h.1 k i)

        here : 4 * j ≤ k → (x * 256 + y) / 2 ^ (2 * (4 * (j + 1) - 1 - k)) % 4 ≡ get_or P (b + k / 4) 0 / 4 ^ (3 - k % 4) % 4
        here i =
            let e : 2 * (4 * (j + 1) - 1 - k) ≡ 2 * (3 - k % 4) = omega arith in
            let q : k / 4 ≡ j = omega arith in
            rw (e, q, ← ey, quarters (k % 4) (omega arith)) (same_low (x * 256 + y) y 8 2 (2 * (3 - k % 4)) (mul-add-mod_self_right x 256 y) (omega arith))

-- eight bytes, the first of the highest weight
pub be-holds : (P bs : List ℕ) (b : ℕ) → ((j : ℕ) → j < 8 → get_or bs j 0 ≡ get_or P (b + j) 0) → ((j : ℕ) → get_or P j 0 < 256)
    → HoldsBytes P 8 b (from_be_bytes w64 bs)
be-holds P bs b e f =
    let y : ℕ → ℕ = λ j. get_or bs j 0 in
    let small : (j : ℕ) → j < 8 → get_or bs j 0 < 256 = λ j h. rw (e j h) (f (b + j)) in
    let h1 = holds_more P 0 b 0 (y 0) (e 0 (lit< tt)) (small 0 (lit< tt)) (holds-none P b) in
    let h2 = holds_more P 1 b _ (y 1) (e 1 (lit< tt)) (small 1 (lit< tt)) h1 in
    let h3 = holds_more P 2 b _ (y 2) (e 2 (lit< tt)) (small 2 (lit< tt)) h2 in
    let h4 = holds_more P 3 b _ (y 3) (e 3 (lit< tt)) (small 3 (lit< tt)) h3 in
    let h5 = holds_more P 4 b _ (y 4) (e 4 (lit< tt)) (small 4 (lit< tt)) h4 in
    let h6 = holds_more P 5 b _ (y 5) (e 5 (lit< tt)) (small 5 (lit< tt)) h5 in
    let h7 = holds_more P 6 b _ (y 6) (e 6 (lit< tt)) (small 6 (lit< tt)) h6 in
    let h8 = holds_more P 7 b _ (y 7) (e 7 (lit< tt)) (small 7 (lit< tt)) h7 in
    let s : (((((((0 * 256 + y 0) * 256 + y 1) * 256 + y 2) * 256 + y 3) * 256 + y 4) * 256 + y 5) * 256 + y 6) * 256 + y 7 ≡ from_be_bytes w64 bs
    = omega arith in
    subst (HoldsBytes P 8 b) s h8

pub words-hold : (ws P : List ℕ) → length P ≡ 80 → ((w : ℕ) → w < 10 → HoldsBytes P 8 (8 * w) (get_or ws w 0)) → cube_of_words ws ≡ codes P
unfolding number_in
words-hold ws P l h =
    words-ext ws (codes P) (omega (arith, length-codes P))
    (λ i k.
    let t = (h (i / 32) (omega arith)).1 (i % 32) (omega arith) in
    let e : 62 - 2 * (i % 32) ≡ 2 * (4 * 8 - 1 - i % 32) = omega arith in
    let a : 8 * (i / 32) + i % 32 / 4 ≡ i / 4 = omega arith in
    let b : i % 32 % 4 ≡ i % 4 = omega arith in
    let n : place_at (get_or ws (i / 32) 0) (i % 32) ≡ get_or P (i / 4) 0 / 4 ^ (3 - i % 4) % 4 = rw e (rw (a, b) at t) in
    ap code_of n ∙ sym (code-at P i (omega arith)))

-- bytes taken out of words
pub unloaded : (ws bytes : List ℕ) → length bytes ≡ 80 → ((b : ℕ) → b < 80 → get_or bytes b 0 ≡ get_or ws (b / 8) 0 / 2 ^ (56 - 8 * (b % 8)) % 256)
    → codes bytes ≡ cube_of_words ws
unfolding number_in
unloaded ws bytes l h =
    sym (words-ext ws (codes bytes) (omega (arith, length-codes bytes)) (λ i k. sym (code-at bytes i (omega arith) ∙ ap code_of (one i k))))
  where
    one : (i : ℕ) → i < 320 → get_or bytes (i / 4) 0 / 4 ^ (3 - i % 4) % 4 ≡ number_in ws i
    one i k =
        let s = 56 - 8 * (i / 4 % 8) in
        let e = 2 * (3 - i % 4) in
        let X = get_or ws (i / 32) 0 / 2 ^ s in
        let q : i / 4 / 8 ≡ i / 32 = omega arith in
        let t : 62 - 2 * (i % 32) ≡ s + e = omega arith in
        rw (h (i / 4) (omega arith), q, quarters (i % 4) (omega arith), t, ← shr-shr (get_or ws (i / 32) 0) s e)
        (same_low (X % 256) X 8 2 e (mod-mod X 256) (omega arith))

-- the bytes of a word
be-byte : (x j : ℕ) → j < 8 → get_or (to_be_bytes w64 x) j 0 ≡ x / 2 ^ (56 - 8 * j) % 256
be-byte x zero h = refl
be-byte x (suc zero) h = refl
be-byte x (suc (suc zero)) h = refl
be-byte x (suc (suc (suc zero))) h = refl
be-byte x (suc (suc (suc (suc zero)))) h = refl
be-byte x (suc (suc (suc (suc (suc zero))))) h = refl
be-byte x (suc (suc (suc (suc (suc (suc zero)))))) h = refl
be-byte x (suc (suc (suc (suc (suc (suc (suc zero))))))) h = let e : x / 1 ≡ x = omega arith in rw e
be-byte x (suc (suc (suc (suc (suc (suc (suc (suc j)))))))) h = absurd (omega arith)

pub word-out : (ws bytes eight post : List ℕ) (w : ℕ) → w < 10 → length bytes ≡ 80 → eight ≡ to_be_bytes w64 (get_or ws w 0)
    → ((k : ℕ) → k < 8 * w → get_or bytes k 0 ≡ get_or ws (k / 8) 0 / 2 ^ (56 - 8 * (k % 8)) % 256) → (k : ℕ) → k < 8 * (w + 1)
    → get_or (take (8 * w) bytes ++ (eight ++ post)) k 0 ≡ get_or ws (k / 8) 0 / 2 ^ (56 - 8 * (k % 8)) % 256
word-out ws bytes eight post w h l e f k i = ⊎_elim before here (below_or k (8 * w))
  where
    front : length (take (8 * w) bytes) ≡ 8 * w
    front = length-take-le (8 * w) bytes (omega arith)

    before : k < 8 * w → get_or (take (8 * w) bytes ++ (eight ++ post)) k 0 ≡ get_or ws (k / 8) 0 / 2 ^ (56 - 8 * (k % 8)) % 256
    before b = get_or-append (take (8 * w) bytes) (eight ++ post) 0 k (omega (arith, front)) ∙ get_or-take (8 * w) bytes k 0 b ∙ f k b

    here : 8 * w ≤ k → get_or (take (8 * w) bytes ++ (eight ++ post)) k 0 ≡ get_or ws (k / 8) 0 / 2 ^ (56 - 8 * (k % 8)) % 256
    here b =
        let at : k ≡ length (take (8 * w) bytes) + (k - 8 * w) = omega (arith, front) in
        let q : k / 8 ≡ w = omega arith in
        let r : k % 8 ≡ k - 8 * w = omega arith in
        let eight-long : length eight ≡ 8 = ap length e in
        ap (λ (n : ℕ). get_or (take (8 * w) bytes ++ (eight ++ post)) n 0) at
        ∙ get_or-append-add (take (8 * w) bytes) (eight ++ post) (k - 8 * w) 0
        ∙ get_or-append eight post 0 (k - 8 * w) (omega (arith, eight-long))
        ∙ rw (e, q, r) (be-byte (get_or ws w 0) (k - 8 * w) (omega arith))

pub word_more : (P ws : List ℕ) (w x : ℕ) → w < length ws → HoldsBytes P 8 (8 * w) x → ((v : ℕ) → v < w → HoldsBytes P 8 (8 * v) (get_or ws v 0))
    → (v : ℕ)
    → v < w + 1 → HoldsBytes P 8 (8 * v) (get_or (set ws w x) v 0)
word_more P ws w x l h f v i =
    ⊎_elim (λ (e : v ≡ w). rw (e, get_or-set_same ws w x 0 l) h) (λ (e : v ≡ w → ⊥). rw (get_or-set_other ws w v x 0 e) (f v (omega arith))) (same_or_not v w)

pub row_more : (r : Row) (cuts : List (List ℕ)) (m : ℕ) (ws : List ℕ) → m < length cuts
    → cube_of_words ws ≡ pad (320 - 4 * r.size) (codes (cut_in r m)) → Loaded r cuts m
    → Loaded r (set cuts m ws) (m + 1)
unfolding row_cube
row_more r cuts m ws l e f k i =
    ⊎_elim (λ (d : k ≡ m). rw (d, get_or-set_same cuts m ws [] l) e) (λ (d : k ≡ m → ⊥). rw (get_or-set_other cuts m k ws [] d) (f k (omega arith)))
    (same_or_not k m)

-- the cut of row m
pub row-room : (r : Row) (m : ℕ) → m < r.count → (r.count - 1 - m) * r.size + r.size ≤ length r.bytes.now
row-room r m h =
    let b : r.count - m ≡ suc (r.count - 1 - m) = omega arith in
    let e : (r.count - m) * r.size ≡ (r.count - 1 - m) * r.size + r.size = rw (b, suc-mul (r.count - 1 - m) r.size) in
    let c : (r.count - m) * r.size ≤ r.count * r.size = mul-le-mul_right r.size (omega arith) in
    omega (arith, r.within)

pub row-size : (r : Row) (m : ℕ) → m < r.count → length (cut_in r m) ≡ r.size
unfolding cut_in
row-size r m h = length-take-le r.size (drop ((r.count - 1 - m) * r.size) r.bytes.now) (simp length-drop (omega (arith, row-room r m h)))
