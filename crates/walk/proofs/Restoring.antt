-- What the cuts of b give back of a, cut by cut.
--   back-apart                 a cut that shares no header with the base gives back nothing
--   CutsLeft                   == what is left to walk of what the cuts of b give back, on what is left of an allowance: i of them are covered
--   cuts-begun, cuts-turn, cuts-stop, cuts-ended    at the start; a piece is covered; a piece is not; no cut is left
use Prim.Native.Nat.{ℕ, ◌+◌, ◌^◌, ◌≤◌, ◌<◌}
use native.Mathlib.Omega.{arith}
use mathlib.Core.Path.{◌≡◌, sym, ap, subst}
use mathlib.Core.List.{List, [], ◌∷◌, map}
use mathlib.Core.Bool.{false}
use lib.ListN.{length}
use Rattle.std.specs.Prelude.{Result, Ok, Err}
use Rattle.model.specs.Cube.{Cube, shares}
use Rattle.model.specs.Difference.{Difference}
use Rattle.model.specs.Walk.{Found, walk_back}
use Rattle.format.specs.Limits.{most_cuts}
use Rattle.format.specs.Bytes.{codes}
use Rattle.visits.specs.declared.allowance.Allowance.{Allowance}
use Rattle.visits.specs.declared.allowance.Verdict.TheVariants.{Covered}
use Rattle.visits.specs.declared.allowance.Outcome.{Outcome}
use Rattle.visits.specs.Settle.{settle, says}
use Rattle.visits.proofs.Settle.{settle-zero, settle-keeps}
use Rattle.walk.specs.declared.stop.Stop.{Stop}
use Rattle.walk.specs.Ending.{CoveredIs, Ended}
use Rattle.walk.proofs.Ended.{ended-none, ended-here, ended-turn}
use Rattle.walk.proofs.Slices.{AllLong}

pub back-apart : (a : Difference) (c : Cube) → shares a.base c ≡ false → (h : Allowance)
    → record { allowance = h; verdict = Covered; piece = [] } ≡ settle h (walk_back a c)
unfolding walk_back
back-apart a c e h = rw e (sym (settle-zero h))

-- a is the difference that is subtracted from; `rest` are the cuts left
pub record CutsLeft (a : Difference) (q : ℕ) (cuts : List Cube) (fresh have : Allowance) (rest : List (List ℕ)) (i : ℕ) : Type 0 where
  pub long : AllLong q rest
  pub sum : have.left + have.spent < 2 ^ 32
  pub few : i + length rest ≤ most_cuts
  pub ends : (x : Result Allowance Stop) → Ended q have (1 + i) (map (walk_back a) (map codes rest)) x → Ended q fresh 1 (map (walk_back a) cuts) x

pub cuts-begun : {a : Difference} {q : ℕ} {rest : List (List ℕ)} {fresh : Allowance} → AllLong q rest → length rest ≤ most_cuts
    → fresh.left + fresh.spent < 2 ^ 32 → CutsLeft a q (map codes rest) fresh fresh rest 0
cuts-begun l f s = record { long = l; sum = s; few = omega arith; ends = λ x z. z }

-- no cut is left
pub cuts-ended : {a : Difference} {q : ℕ} {cuts : List Cube} {fresh have : Allowance} {rest : List (List ℕ)} {i : ℕ}
    → CutsLeft a q cuts fresh have rest i → rest ≡ [] → Ended q fresh 1 (map (walk_back a) cuts) (Ok have)
cuts-ended {a} {q} {cuts} {fresh} {have} {rest} {i} x none =
    x.ends (Ok have)
    (subst (λ (r : List (List ℕ)). Ended q have (1 + i) (map (walk_back a) (map codes r)) (Ok have)) (sym none) (ended-none q have (1 + i)))

module _ {a : Difference} {q : ℕ} {cuts : List Cube} {fresh have : Allowance} {rest : List (List ℕ)} {i : ℕ} (x : CutsLeft a q cuts fresh have rest i)
    (c : List ℕ) (others : List (List ℕ)) (next : rest ≡ c ∷ others) where
  pub cut-long : (length c ≡ q) × AllLong q others
  cut-long = subst (AllLong q) next x.long

  module _ (o : Outcome (List ℕ)) (e : says q o ≡ settle have (walk_back a (codes c))) where
    abbrev later : List Found
    later = map (walk_back a) (map codes others)

    ends_so : (y : Result Allowance Stop) → Ended q have (1 + i) (walk_back a (codes c) ∷ later) y → Ended q fresh 1 (map (walk_back a) cuts) y
    ends_so y z = x.ends y (subst (λ (r : List (List ℕ)). Ended q have (1 + i) (map (walk_back a) (map codes r)) y) (sym next) z)

    -- what this cut gives back is covered: the others go on with what it left
    pub cuts-turn : (left : Allowance) → CoveredIs o (1 + i) (Ok left) → CutsLeft a q cuts fresh left others (i + 1)
    cuts-turn left v =
        record {
          long = cut-long.1;
          sum = rw v.1 (omega (arith, x.sum, settle-keeps have _ (says q o) e));
          few = omega (arith, x.few, ap length next);
          ends = λ y z. ends_so y (ended-turn q have (1 + i) _ later o e left v y (rw index at z));
        }
      where
        index : 1 + (i + 1) ≡ 1 + i + 1
        index = omega arith

    -- it is not: that is the answer
    pub cuts-stop : (y : Stop) → CoveredIs o (1 + i) (Err y) → Ended q fresh 1 (map (walk_back a) cuts) (Err y)
    cuts-stop y v = ends_so (Err y) (ended-here q have (1 + i) _ later o e y v)
