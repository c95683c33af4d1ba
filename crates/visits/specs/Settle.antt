-- The walk on an allowance, from the walk without one.
--   after a n          == the allowance a, when n pieces are paid for
--   Said               == what an outcome says
--   kept v p           == the piece p where the verdict v is that it survives, else none
--   says q r           == what the outcome r says of pieces of q bytes: its piece counts only where one survives
--   said_of a s         == what is said of a walk that came to s and left the allowance a
--   unpaid a           == what is said where the allowance a does not pay
--   settle a v         == paying the pieces of the walk v out of the allowance a
--   left_from f c a p   == what is left to visit of a piece that a cut c meets, on the allowance a: p agrees with c where its pieces were visited
--   decision_of v n i p == the decision of a verdict, with its count, the index of what decided, and its piece
--   decision i d       == what a walk that began with nothing spent, and stopped at the index i, comes to
use Rattle.std.specs.Prelude.{ℕ, ◌+◌, ◌-◌, List, [], cond, leb}
use Rattle.model.specs.Cube.{Cube}
use Rattle.model.specs.Walk.{Survivor, nothing, piece, Found, children, in_turn, Decision, undecided, empty, member}
use Rattle.cube.specs.Whole.{cube_of}
use Rattle.visits.specs.declared.allowance.Allowance.{Allowance}
use Rattle.visits.specs.declared.allowance.Verdict.{Verdict}
use Rattle.visits.specs.declared.allowance.Verdict.TheVariants.{Covered, Survives, Undecided}
use Rattle.visits.specs.declared.allowance.Outcome.{Outcome}

-- FORMAT 110
abbrev pub after : Allowance → ℕ → Allowance
after a n = record { left = a.left - n; spent = a.spent + n }

pub record Said : Type 0 where
  pub allowance : Allowance
  pub verdict : Verdict
  pub piece : Cube

abbrev pub kept : Verdict → Cube → Cube
kept Covered p = []
kept Survives p = p
kept Undecided p = []

abbrev pub says : ℕ → Outcome (List ℕ) → Said
says q r = record { allowance = r.allowance; verdict = r.verdict; piece = kept r.verdict (cube_of q r.piece) }

abbrev pub said_of : Allowance → Survivor → Said
said_of a nothing = record { allowance = a; verdict = Covered; piece = [] }
said_of a (piece p) = record { allowance = a; verdict = Survives; piece = p }

abbrev pub unpaid : Allowance → Said
unpaid a = record { allowance = after a a.left; verdict = Undecided; piece = [] }

-- decided where the allowance pays every piece of the walk
unfoldable pub settle : Allowance → Found → Said
settle a v = cond (leb v.pieces a.left) (said_of (after a v.pieces) v.survivor) (unpaid a)

unfoldable pub left_from : (Cube → Found) → Cube → Allowance → Cube → Said
left_from f c a p = settle a (in_turn f (children p c))

abbrev pub decision_of : Verdict → ℕ → ℕ → Cube → Decision
decision_of Covered n i p = empty n
decision_of Survives n i p = member n i p
decision_of Undecided n i p = undecided n i

abbrev pub decision : ℕ → Said → Decision
decision i d = decision_of d.verdict d.allowance.spent i d.piece
