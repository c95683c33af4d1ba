-- One turn of a visit's loop, on bytes: the position i is the first that the cut opens, and n the number of the cut's code there.
--   front_length               the first q bytes of a piece
--   cube-length, cut-length    a cube of q bytes has 4 * q positions
--   piece-given                a piece with the code v at a position, whatever part of it is looked at
--   Opens, opens_at            i is a position of the piece and of the cut, free in the one and n in the other; where the piece takes that value,
--                              the next position that opens is a later one
use Prim.Native.Nat.{ℕ, zero, suc, ◌+◌, ◌-◌, ◌*◌, ◌/◌, ◌≤◌, ◌<◌}
use native.Mathlib.Omega.{arith}
use mathlib.Core.Path.{◌≡◌, refl, sym, ap, ◌∙◌}
use mathlib.Core.Bool.{true}
use mathlib.Core.List.{List}
use lib.ListN.{length, get_or, take, drop, set, length-drop}
use lib.Seq.{length-take-le, take-set-lt}
use Rattle.model.specs.Cube.{Code, none, v0, v1, free}
use Rattle.model.specs.Walk.{opens, other}
use Rattle.format.specs.Bytes.{code_of, codes}
use Rattle.format.proofs.Coding.{length-codes, code-at}
use Rattle.cube.specs.Whole.{cube_of, whole_at}
use Rattle.cube.proofs.Member.{codes-take}
use Rattle.cube.specs.Code.{code_at}
use Rattle.cube.proofs.Coded.{code-small}
use Rattle.visits.specs.Cuts.{Given}
use Rattle.visits.specs.Opening.{first_open, FirstOpen}
use Rattle.std.specs.Prelude.{Option, Some}
use Rattle.visits.proofs.Openings.{first-opens, first-after}

pub front_length : (q : ℕ) (bs : List ℕ) → q ≤ length bs → length (take q bs) ≡ q
front_length q bs h = length-take-le q bs h

pub cube-length : (q : ℕ) (bs : List ℕ) → q ≤ length bs → length (cube_of q bs) ≡ 4 * q
unfolding cube_of
cube-length q bs h = length-codes (take q bs) ∙ ap (λ (n : ℕ). 4 * n) (length-take-le q bs h)

pub cut-length : (q : ℕ) (s : List ℕ) (at : ℕ) → at + q ≤ length s → length (whole_at q s at) ≡ 4 * q
unfolding whole_at
cut-length q s at h = cube-length q (drop at s) (simp length-drop (omega arith))

-- the code at a position, as the number that is read
cut-code : (cut : List ℕ) (i : ℕ) → i < 4 * length cut → get_or (codes cut) i none ≡ code_of (code_at cut 0 i)
unfolding code_at
cut-code cut i h = let z : 0 + i / 4 ≡ i / 4 = omega arith in rw z (code-at cut i h)

pub piece-given : (bs new : List ℕ) (i v : ℕ) → length new ≡ 80 → codes new ≡ set (codes bs) i (code_of v) → Given bs i v new
unfolding cube_of
piece-given bs new i v l e = record { long = l; cube = λ q h. rw (codes-take q new, codes-take q bs, e) (take-set-lt (4 * q) (codes bs) i (code_of v) h) }

-- what a position that opens tells
opens-other : (x : Code) (n : ℕ) → opens x (code_of n) ≡ true → code_of (3 - n) ≡ other (code_of n)
opens-other none n e = cc
opens-other v0 n e = cc
opens-other v1 n e = cc
opens-other free zero e = cc
opens-other free (suc zero) e = refl
opens-other free (suc (suc zero)) e = refl
opens-other free (suc (suc (suc n))) e = cc

pub record Opens (q i n : ℕ) (cut near : List ℕ) : Type 0 where
  pub even : length (cube_of q near) ≡ length (codes cut)
  pub first : i ≡ first_open (cube_of q near) (codes cut)
  pub inside : i < length (cube_of q near)
  pub under : i < 4 * q
  pub small : n ≤ 3
  pub code : code_of n ≡ get_or (codes cut) i none
  pub other : (m : ℕ) → m ≡ 3 - n → code_of m ≡ other (code_of n)
  pub later : (r : List ℕ) → Given near i n r → i < first_open (cube_of q r) (codes cut)

pub opens_at : (q i n : ℕ) (cut near : List ℕ) (next : Option ℕ) → q ≤ 80 → length near ≡ 80 → length cut ≡ q
    → FirstOpen (cube_of q near) (codes cut) next → next ≡ Some i → n ≡ code_at cut 0 i
    → Opens q i n cut near
opens_at q i n cut near next short long there found is read =
    record {
      even = even;
      first = first;
      inside = within;
      under = under;
      small = omega (arith, code-small cut 0 i);
      code = code;
      other = λ m e. rw e (opens-other (get_or (cube_of q near) i none) n opening);
      later = later;
    }
  where
    first : i ≡ first_open (cube_of q near) (codes cut)
    first = (found.found i is).0

    within : i < length (cube_of q near)
    within = (found.found i is).1

    under : i < 4 * q
    under = rw (cube-length q near (omega arith)) at within

    even : length (cube_of q near) ≡ length (codes cut)
    even = cube-length q near (omega arith) ∙ sym (length-codes cut ∙ ap (λ (n : ℕ). 4 * n) there)

    code : code_of n ≡ get_or (codes cut) i none
    code = rw read (sym (cut-code cut i (omega (arith, under))))

    opening : opens (get_or (cube_of q near) i none) (code_of n) ≡ true
    opening = rw (code, first) (first-opens (cube_of q near) (codes cut) even (rw first at within))

    later : (r : List ℕ) → Given near i n r → i < first_open (cube_of q r) (codes cut)
    later r g =
        let t = first-after (cube_of q near) (codes cut) even (rw first at within) in
        rw (g.cube q under, code) (rw (← first) at t)
