-- The pieces of a result: one difference of the first operand, and one stop in the second.
--   stop_at o q t x        == the stop of the operation o at an offset: intersection stops at each difference of the second operand; subtraction at each
--                            cube of its single record, the base, at b, and then the cuts; tidying has no second operand, and stops once
--   base_stop q x, cut_stop q x == a stop of subtraction, at the base and at a cut
--   Room q t p            == what a stop names stands within the second operand
--   bases_at q base t m    == the base as it is, or met with the cube that stands in t where m says, or none where they share no header
--   bases_of q d t p       == the base of the piece of the difference d and the stop p, or none where there is no piece
--   cuts_of q d t p        == its cuts: those of the difference, then those of the stop
--   pieces_of q d t p      == the piece, or none
--   begun p m              == the base of the piece p, or none where there is no piece
--   Begun bs old new m     == the piece old, begun anew, is now new with the base bs and no cuts, or no piece where bs is none
--   MadeOf d t p old new m == the piece old, made anew, is now new: that piece tidied, or no piece
use Rattle.std.specs.Prelude.{ℕ, ◌+◌, ◌*◌, ◌≤◌, ◌≡◌, List, [], ◌∷◌, ◌++◌, map, cond, eqb, length, Option, Some, None}
use Rattle.model.specs.Cube.{Cube, meet, shares}
use Rattle.model.specs.Difference.{Difference, less, Region}
use Rattle.model.specs.Tidy.{tidy_region}
use Rattle.format.specs.Limits.{most_cuts}
use Rattle.cube.specs.Whole.{whole_at, wholes_at}
use Rattle.region.specs.Front.{front_at}
use Rattle.algebra.specs.Tidied.{base_in, held}
use Rattle.algebra.specs.declared.piece.Piece.{Piece}
use Rattle.algebra.specs.declared.stop.Stop.{Stop}
use Rattle.algebra.specs.declared.stop.Operation.{Operation}
use Rattle.algebra.specs.declared.stop.Operation.TheVariants.{Tidy, Intersect, Less}

-- FORMAT 75: the base b, as one cut more
abbrev pub base_stop : ℕ → ℕ → Stop
base_stop q x = record { meets = None; from = x; cuts = 1; next = x + q }

-- FORMAT 76: a cut bj, to meet a
abbrev pub cut_stop : ℕ → ℕ → Stop
cut_stop q x = record { meets = Some x; from = 0; cuts = 0; next = x + q }

unfoldable pub stop_at : Operation → ℕ → List ℕ → ℕ → Stop
stop_at Tidy q t x = record { meets = None; from = 0; cuts = 0; next = length t }
stop_at Intersect q t x =
    let f = front_at t x in
    record { meets = Some f.base; from = f.base + q; cuts = f.cuts; next = f.next }
stop_at (Less b) q t x = cond (eqb x b) (base_stop q x) (cut_stop q x)

pub record Room (q : ℕ) (t : List ℕ) (p : Stop) : Type 0 where
  pub cube : (x : ℕ) → p.meets ≡ Some x → x + q ≤ length t
  pub cuts : p.from + p.cuts * q ≤ length t
  pub few : p.cuts ≤ most_cuts

unfoldable pub bases_at : ℕ → Cube → List ℕ → Option ℕ → List Cube
bases_at q base t None = base ∷ []
bases_at q base t (Some x) = let cube = whole_at q t x in cond (shares base cube) (meet base cube ∷ []) []

unfoldable pub bases_of : ℕ → Difference → List ℕ → Stop → List Cube
bases_of q d t p = bases_at q d.base t p.meets

abbrev pub cuts_of : ℕ → Difference → List ℕ → Stop → List Cube
cuts_of q d t p = d.cuts ++ wholes_at q t p.from p.cuts

abbrev pub pieces_of : ℕ → Difference → List ℕ → Stop → Region
pieces_of q d t p = map (λ b. less b (cuts_of q d t p)) (bases_of q d t p)

abbrev pub begun : Piece → Option Unit → List Cube
begun p None = []
begun p (Some u) = base_in p ∷ []

pub record Begun (bs : List Cube) (old new : Piece) (m : Option Unit) : Type 0 where
  pub bases : begun new m ≡ bs
  pub none : new.kept ≡ 0
  pub size : new.size ≡ old.size

pub record MadeOf (d : Difference) (t : List ℕ) (p : Stop) (old new : Piece) (m : Option Unit) : Type 0 where
  pub tidied : held new m ≡ tidy_region (pieces_of old.size d t p)
  pub size : new.size ≡ old.size
