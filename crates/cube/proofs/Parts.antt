-- Lists that bytes spell, a stretch for each byte, cut in the middle of a byte: what stands before, the byte's own stretch cut, and what stands after.
--   take-parts, drop-parts   the list up to a place of such a byte, and from it on
--   last-part                the part of a slice that code lends: the elements after the k-th
--   drop-take                a part that begins behind others
use mathlib.Core.Path.{◌≡◌, ap, ◌∙◌}
use mathlib.Core.List.{List, [], ◌∷◌, ◌++◌}
use Prim.Native.Nat.{ℕ, zero, suc, ◌+◌, ◌-◌, ◌≤◌, ◌<◌}
use native.Mathlib.Nat.{zero-add, suc-add}
use native.Mathlib.Numerals.{add-one}
use native.Mathlib.Omega.{arith}
use lib.ListN.{length, get_or, take, drop, length-drop}
use lib.Seq.{split_at, take-nil, take_all, take-append-add, drop-append-add, take-append-le, drop-append-le}

module _ {A : Type 0} (F : List ℕ → List A) (join : (a b : List ℕ) → F (a ++ b) ≡ F a ++ F b)
    (c : List ℕ) (k q : ℕ) (h : k < length c) (m : q ≤ length (F (get_or c k 0 ∷ []))) where
  parted : F c ≡ F (take k c) ++ (F (get_or c k 0 ∷ []) ++ F (drop (suc k) c))
  parted =
      ap F (split_at c k 0 h) ∙ join (take k c) (get_or c k 0 ∷ drop (suc k) c)
      ∙ ap (λ (r : List A). F (take k c) ++ r) (join (get_or c k 0 ∷ []) (drop (suc k) c))

  pub take-parts : (w : ℕ) → w ≡ length (F (take k c)) + q → take w (F c) ≡ F (take k c) ++ take q (F (get_or c k 0 ∷ []))
  take-parts w e =
      ap (take w) parted ∙ rw (e, take-append-add) (ap (λ (r : List A). F (take k c) ++ r) (take-append-le q (F (get_or c k 0 ∷ [])) (F (drop (suc k) c)) m))

  pub drop-parts : (w : ℕ) → w ≡ length (F (take k c)) + q → drop w (F c) ≡ drop q (F (get_or c k 0 ∷ [])) ++ F (drop (suc k) c)
  drop-parts w e =
      ap (drop w) parted ∙ rw (e, drop-append-add) (drop-append-le q (F (get_or c k 0 ∷ [])) (F (drop (suc k) c)) m)

-- a part of a slice that code lends
pub last-part : {A : Type 0} (c : List A) (k : ℕ) → take (length c - (k + 1)) (drop (k + 1) c) ≡ drop (suc k) c
last-part c k =
    let n = length-drop (suc k) c in
    rw add-one (take_all (length c - suc k) (drop (suc k) c) (omega arith))

pub drop-take : {A : Type 0} (m n : ℕ) (l : List A) → drop m (take (m + n) l) ≡ take n (drop m l)
drop-take zero n l = rw zero-add
drop-take (suc m) n [] = rw (take-nil (suc m + n), take-nil n)
drop-take (suc m) n (x ∷ l) = rw suc-add (drop-take m n l)
