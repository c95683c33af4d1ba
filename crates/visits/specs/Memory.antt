-- The walks that found nothing, remembered in slots: what a piece of the walk has in common with the pieces that are like it, in words, and the words
-- that the cuts which it meets have in common, these cuts, and how many pieces the walk has.
--   Finds k v           == the walk v has k pieces, and nothing survives
--   LikeSlot slot p     == the piece p is like the slot's
--   LikeWords slot ws   == the piece in the words ws is like the slot's, word by word
--   Remembers cuts s    == the slot s is empty, or every piece that is like its own, with cuts left of which it meets the same, has a walk of the
--                          same number of pieces in which nothing survives
--   Memory cuts slots   == Remembers holds of each of the slots
--   Recalls, Keeps      == a walk is looked up, a walk is remembered
--   Lies ws c           == the cube in the words ws lies in the cube c
--   Common cuts x ws    == the cube in the words ws lies in each of the cuts that x has a digit of
--   SlotOf near m alive count s == s is the slot of a walk of `count` pieces, from the piece near, which meets the cuts
--                          `alive`; m is what these have in common
use Rattle.std.specs.Prelude.{ℕ, ◌<◌, ◌≡◌, List, All, Option, Some, length, get_or}
use Rattle.std.specs.Option.{ForSome}
use Rattle.std.specs.Int.Bits.{bit_or}
use Rattle.model.specs.Cube.{none, Cube, meet_code}
use Rattle.model.specs.Walk.{nothing, Found, visit}
use Rattle.visits.specs.Words.{code_in, cube_of_words, row_cube, cuts_below, either_code}
use Rattle.visits.specs.Alive.{digit, Alive}
use Rattle.visits.specs.declared.memory.Slot.{Slot}

abbrev pub Finds : ℕ → Found → Type 0
Finds k v = (v.pieces ≡ k) × (v.survivor ≡ nothing)

abbrev pub LikeSlot : Slot → Cube → Type 0
LikeSlot slot p = (i : ℕ) → i < 320 → either_code (get_or p i none) (code_in slot.common i) ≡ code_in slot.cube i

abbrev pub LikeWords : Slot → List ℕ → Type 0
LikeWords slot ws = (w : ℕ) → w < 10 → bit_or (get_or ws w 0) (get_or slot.common w 0) ≡ get_or slot.cube w 0

unfoldable pub Remembers : List (List ℕ) → Slot → Type 0
Remembers cuts slot =
    ForSome slot.count (λ k. (n : ℕ) (p : Cube) → length p ≡ 320 → Alive cuts n p slot.alive → LikeSlot slot p → Finds k (visit (cuts_below cuts n) p))

abbrev pub Memory : List (List ℕ) → List Slot → Type 0
Memory cuts slots = All (Remembers cuts) slots

abbrev pub Recalls : List Slot → List ℕ → ℕ → Option ℕ → Type 0
Recalls slots ws alive r =
    ForSome r
    (λ k. (cuts : List (List ℕ)) → Memory cuts slots → (n : ℕ) → Alive cuts n (cube_of_words ws) alive → Finds k (visit (cuts_below cuts n) (cube_of_words ws)))

abbrev pub Keeps : List (List ℕ) → List Slot → List ℕ → ℕ → ℕ → List Slot → Type 0
Keeps cuts slots ws alive count after =
    Memory cuts slots → (n : ℕ) → Alive cuts n (cube_of_words ws) alive → Finds count (visit (cuts_below cuts n) (cube_of_words ws)) → Memory cuts after

abbrev pub Lies : List ℕ → Cube → Type 0
Lies ws c = (i : ℕ) → i < 320 → meet_code (code_in ws i) (get_or c i none) ≡ code_in ws i

abbrev pub Common : List (List ℕ) → ℕ → List ℕ → Type 0
Common cuts x ws = (j : ℕ) → j < 64 → digit j x ≡ 1 → Lies ws (row_cube cuts j)

pub record SlotOf (near m : List ℕ) (alive count : ℕ) (s : Slot) : Type 0 where
  pub own : (w : ℕ) → w < 10 → get_or s.cube w 0 ≡ bit_or (get_or near w 0) (get_or m w 0)
  pub shared : s.common ≡ m
  pub meets : s.alive ≡ alive
  pub pieces : s.count ≡ Some count
