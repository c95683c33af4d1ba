-- Bytes laid into a buffer.
--   put-fits, put-long       where the bytes fit they are laid, and else nothing is
--   put-front                bytes that fit at the front stand there
--   over-byte, over-more     laying one byte more, and one part more
--   tail-back                what a buffer holds when a callee laid bytes over the front of the part that was lent to it
--   part-back, behind-back   what it holds when a part of it, or the part behind others, was lent and came back
--   length_over              the buffer keeps its length
--   front-laid, here-laid, back-laid   what stands before the bytes laid, the bytes themselves, and what stands behind them
use Prim.Native.Nat.{ℕ, suc, ◌+◌, ◌-◌, ◌≤◌, ◌<◌}
use native.Mathlib.Omega.{arith}
use mathlib.Core.Path.{◌≡◌, refl, sym, ap, ◌∙◌}
use mathlib.Core.List.{List, [], ◌∷◌, ◌++◌, append-nil, append_assoc}
use lib.ListN.{length, get_or, take, drop, set, length-append, length-take, length-drop, drop_of_length-le}
use lib.Seq.{drop-cons, append_snoc, set_at, take_at, drop_at, drop-drop, length-take-le, take-append-le, take-take, take_all}
use borrow.Author.Tests.{le-leb, lt-leb}
use borrow.Rule.Slice.PartMut.{put_mid}
use Rattle.format.specs.Told.{over}
use Rattle.cube.specs.Lay.{laid, put}

module _ (old : List ℕ) (o : ℕ) (new : List ℕ) where
  pub put-fits : o + length new ≤ length old → put old o new ≡ laid old o new
  unfolding put
  put-fits h = rw (le-leb (o + length new) (length old) h)

  pub put-long : length old < o + length new → put old o new ≡ old
  unfolding put
  put-long h = rw (lt-leb (o + length new) (length old) h)

-- bytes put at the front of a buffer
pub put-front : (old new : List ℕ) (n : ℕ) → length new ≡ n → n ≤ length old → take n (put old 0 new) ≡ new
put-front old new n e h = rw (put-fits old 0 new (omega arith)) (take_at new (drop (length new) old) n e)

pub over-byte : (old new : List ℕ) (v n : ℕ) → length new ≡ n → n < length old → set (over old new) n v ≡ over old (new ++ (v ∷ []))
over-byte old new v n e h =
    let l : length (new ++ (v ∷ [])) ≡ suc n = simp length-append (omega arith) in
    rw (e, l, append_snoc, drop-cons old n 0 h) (set_at new (get_or old n 0) (drop (suc n) old) v n e)

pub over-more : (old done p : List ℕ) (o : ℕ) → length done ≡ o → laid (over old done) o p ≡ over old (done ++ p)
over-more old done p o l =
    rw (take_at done (drop (length done) old) o l, drop_at done (drop (length done) old) o l, drop-drop, append_assoc, length-append)

pub length_over : (old new : List ℕ) → length new ≤ length old → length (over old new) ≡ length old
length_over old new h = simp (length-append, length-drop) (omega arith)

pub tail-back : (xs p ys : List ℕ) (o k : ℕ) → k ≡ length xs - o → ys ≡ over (take k (drop o xs)) p → put_mid o k xs ys ≡ laid xs o p
tail-back xs p ys o k e y =
    let l : length (drop o xs) ≤ k = simp length-drop (omega arith) in
    rw (y, take_all k (drop o xs) l, drop_of_length-le (drop o xs) l, append-nil)

module _ (old new : List ℕ) (o : ℕ) (fits : o + length new ≤ length old) where
  pub front-laid : (n : ℕ) → n ≤ o → take n (laid old o new) ≡ take n old
  front-laid n h = take-append-le n (take o old) (over (drop o old) new) (simp length-take (omega arith)) ∙ take-take n o old h

  pub here-laid : (n : ℕ) → length new ≡ n → take n (drop o (laid old o new)) ≡ new
  here-laid n l =
      rw (drop_at (take o old) (over (drop o old) new) o (length-take-le o old (omega arith))) (take_at new (drop (length new) (drop o old)) n l)

  pub back-laid : (n : ℕ) → o + length new ≡ n → drop n (laid old o new) ≡ drop n old
  back-laid n e =
      let f : drop n (laid old o new) ≡ drop (length new) (drop o (laid old o new)) = rw (← e) (sym (drop-drop (length new) o (laid old o new))) in
      f
      ∙ rw (drop_at (take o old) (over (drop o old) new) o (length-take-le o old (omega arith)), drop_at new (drop (length new) (drop o old)) (length new) refl)
      (drop-drop (length new) o old ∙ ap (λ (m : ℕ). drop m old) e)

-- bytes laid behind others, over the front of the part that was lent
pub behind-back : (old first p ys mid : List ℕ) (o k : ℕ) → length first ≡ o → mid ≡ over old first → k ≡ length mid - o → o + length p ≤ length old
    → (length p ≤ length (take k (drop o mid)) → ys ≡ over (take k (drop o mid)) p) → put_mid o k mid ys ≡ over old (first ++ p)
behind-back old first p ys mid o k l e f h y =
    let m : length mid ≡ length old = ap length e ∙ length_over old first (omega arith) in
    let r : length p ≤ length (take k (drop o mid)) = simp (length-take, length-drop) (omega arith) in
    tail-back mid p ys o k f (y r) ∙ rw e (over-more old first p o l)

-- a part that was lent and came back
pub part-back : (xs ys : List ℕ) (o k : ℕ) → length ys ≡ k → put_mid o k xs ys ≡ laid xs o ys
part-back xs ys o k e = rw (← e)
