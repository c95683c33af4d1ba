-- The walk without an allowance, and what an allowance makes of it.
--   opens x y       == the piece's code x leaves the position free and the cut's code y fixes it
--   other y         == the code of the other value
--   children p c    == for each position that c fixes and p leaves free, left to right, the piece to visit
--   Survivor        == the piece that survived, or nothing
--   Found           == what a walk comes to: the pieces visited, and what survived
--   joined n s v    == a walk of n pieces that came to s, and then v if that is nothing
--   next u v        == the walk u, and then v if nothing survived in u
--   in_turn f xs     == the walks f of xs, one after another up to the first survivor
--   visited v       == the walk v with one piece more before it
--   visit cs p      == to visit the piece p with the cuts cs left
--   walk d          == the walk of a difference
--   walk_region r    == the walk of a region, difference by difference
--   walk_inclusion   == the walk of "a in b": that of the untidied pieces of a less b
--   given_back a c   == what the cut c of a subtracted difference gives back of a
--   walk_back a c    == the walk of that: of no piece where they share no header, so that it is skipped
--   pieces_less a b  == the pieces of a less b by their numbers, with the skipped ones: the first, and what each cut of b gives back
--   walks_less a b   == their walks
--   covered s       == nothing survived
--   covers n v      == the allowance n pays for the walk v, and nothing survived
--   stop n vs       == where the walks vs stop, one after another on the allowance n: how many it covers before the one that decides
--   Decision        == undecided, empty or a member; each with its count of pieces, and where it was not empty with the index of what decided
--   count_of d       == the count of pieces of a decision
--   decided n i s   == the decision on a walk of n pieces that came to s, at the index i
--   decide n i v    == what the allowance n makes of the walk v, which stops at the index i
use Rattle.std.specs.Prelude.{ℕ, suc, ◌+◌, ◌-◌, List, [], ◌∷◌, ◌++◌, map, Bool, true, false, cond, ◌&&◌, leb}
use Rattle.model.specs.Cube.{Code, none, v0, v1, free, Cube, meet, shares}
use Rattle.model.specs.Difference.{Difference, less, Region}
use Rattle.model.specs.Algebra.{subtraction}

-- FORMAT 105: a position to go through
abbrev pub opens : Code → Code → Bool
opens none y = false
opens v0 y = false
opens v1 y = false
opens free none = false
opens free v0 = true
opens free v1 = true
opens free free = false

-- FORMAT 105: the other value
abbrev pub other : Code → Code
other none = none
other v0 = v1
other v1 = v0
other free = free

-- FORMAT 105, 107
abbrev pub children : Cube → Cube → List Cube
children [] c = []
children (x ∷ p) [] = []
children (x ∷ p) (y ∷ c) =
    cond (opens x y) ((other y ∷ p) ∷ map (λ q. y ∷ q) (children p c)) (map (λ q. x ∷ q) (children p c))

pub data Survivor : Type 0 where
  nothing : Survivor
  piece : Cube → Survivor

pub record Found : Type 0 where
  pub pieces : ℕ
  pub survivor : Survivor

abbrev pub joined : ℕ → Survivor → Found → Found
joined n nothing v = record { pieces = n + v.pieces; survivor = v.survivor }
joined n (piece p) v = record { pieces = n; survivor = piece p }

abbrev pub next : Found → Found → Found
next u v = joined u.pieces u.survivor v

-- FORMAT 102, 112
abbrev pub in_turn : {A : Type 0} → (A → Found) → List A → Found
in_turn f [] = record { pieces = 0; survivor = nothing }
in_turn f (x ∷ xs) = next (f x) (in_turn f xs)

-- FORMAT 101: a visit counts one, before what follows of it
abbrev pub visited : Found → Found
visited v = record { pieces = 1 + v.pieces; survivor = v.survivor }

-- FORMAT 101, 102, 104 to 107, 109
unfoldable pub visit : List Cube → Cube → Found
visit [] p = record { pieces = 1; survivor = piece p }
visit (c ∷ cs) p =
    let met = visited (in_turn (visit cs) (children p c)) in
    let passed = visit cs p in
    cond (shares p c) met passed

-- FORMAT 108
abbrev pub walk : Difference → Found
walk d = visit d.cuts d.base

-- FORMAT 112
abbrev pub walk_region : Region → Found
walk_region r = in_turn walk r

-- FORMAT 113
abbrev pub walk_inclusion : Difference → Difference → Found
walk_inclusion a b = walk_region (subtraction a b)

-- FORMAT 76
abbrev pub given_back : Difference → Cube → Difference
given_back a c = less (meet a.base c) a.cuts

unfoldable pub walk_back : Difference → Cube → Found
walk_back a c =
    let back = walk (given_back a c) in
    cond (shares a.base c) back (record { pieces = 0; survivor = nothing })

-- FORMAT 113, 153
abbrev pub pieces_less : Difference → Difference → Region
pieces_less a b = less a.base (a.cuts ++ (b.base ∷ [])) ∷ map (given_back a) b.cuts

abbrev pub walks_less : Difference → Difference → List Found
walks_less a b = walk (less a.base (a.cuts ++ (b.base ∷ []))) ∷ map (walk_back a) b.cuts

-- which of several walks decides
abbrev pub covered : Survivor → Bool
covered nothing = true
covered (piece p) = false

abbrev pub covers : ℕ → Found → Bool
covers n v = leb v.pieces n && covered v.survivor

unfoldable pub stop : ℕ → List Found → ℕ
stop n [] = 0
stop n (v ∷ vs) = cond (covers n v) (suc (stop (n - v.pieces) vs)) 0

pub data Decision : Type 0 where
  undecided : ℕ → ℕ → Decision
  empty : ℕ → Decision
  member : ℕ → ℕ → Cube → Decision

abbrev pub count_of : Decision → ℕ
count_of (undecided n i) = n
count_of (empty n) = n
count_of (member n i p) = n

abbrev pub decided : ℕ → ℕ → Survivor → Decision
decided n i nothing = empty n
decided n i (piece p) = member n i p

-- FORMAT 34, 111
unfoldable pub decide : ℕ → ℕ → Found → Decision
decide n i v = cond (leb v.pieces n) (decided v.pieces i v.survivor) (undecided n i)
