-- The tally of the cuts of a difference, from the last one on.
--   kept-front, into-long      the bytes of the tally's cube that are looked at, and how many there are
--   tally-begun                before the first cut
--   tally-apart, tally-met     one cut more in front, that does not meet the base and that does
--   tally-over                 the second bound of the cuts counted, capped
--   Counted b all rest t       == t is the tally of those of the cuts `all` that stand behind the cuts `rest`, which are left to count
--   counted-none, counted-turn, counted-all    no cut is counted; one more is; all are
--   counted-with, counted-least    what is said of a tally's base is said of that base
--   last-long                  the last of the cuts left has as many bytes as the base
use Prim.Native.Nat.{ℕ, suc, ◌+◌, ◌*◌, ◌^◌, ◌≤◌}
use native.Mathlib.Omega.{arith}
use mathlib.Core.Path.{◌≡◌, refl, sym, ap, subst, ◌∙◌}
use mathlib.Core.List.{List, [], ◌∷◌, ◌++◌, map, append-nil, append_assoc}
use mathlib.Core.Bool.{true, false}
use lib.ListN.{length, take, replicate, length-append}
use lib.Seq.{length-take-le}
use Rattle.model.specs.Cube.{Cube, meet, shares}
use Rattle.model.specs.Difference.{less}
use Rattle.model.specs.Ceiling.{frees, ceiling_from, meeting, mark, matters, marks, ceiling_over, ceiling, capped}
use Rattle.std.specs.Borrow.{Bor}
use Rattle.format.specs.Limits.{most_cuts}
use Rattle.format.specs.Bytes.{codes}
use Rattle.format.proofs.Coding.{length-codes}
use Rattle.cube.specs.Pair.{and_into}
use Rattle.cube.specs.Whole.{cube_of}
use Rattle.walk.specs.declared.tally.Tally.{Tally}
use Rattle.walk.specs.Tally.{lost, Tallied}
use Rattle.walk.proofs.Frees.{frees-lost, lost-mark, lost-none}
use Rattle.walk.proofs.Caps.{capped-raised}
use Rattle.walk.proofs.Slices.{AllLong, long-last}

-- the bytes of the tally's cube that the cubes of the difference have
pub kept-front : (q : ℕ) (k : List ℕ) → codes (take q k) ≡ cube_of q k
unfolding cube_of
kept-front q k = refl

kept-long : (b k : List ℕ) → length b ≤ length k → length (codes b) ≡ length (cube_of (length b) k)
kept-long b k h =
    rw (← kept-front (length b) k) (omega (arith, length-codes b, length-codes (take (length b) k), length-take-le (length b) k h))

pub into-long : (a b out : List ℕ) → length (and_into a b out) ≡ length out
into-long [] b out = refl
into-long (x ∷ a) [] out = refl
into-long (x ∷ a) (y ∷ b) [] = refl
into-long (x ∷ a) (y ∷ b) (z ∷ out) = ap suc (into-long a b out)

-- before the first cut
pub tally-begun : (n : ℕ) (b : List ℕ) (t : Tally) → length b ≤ n → t.nested ≡ 1 → t.met ≡ 0 → t.kept ≡ replicate n 255 → Tallied b [] t
unfolding ceiling_from meeting matters
tally-begun n b t h f m k = record { nested = f; met = m; kept = rw k (lost-none n b h) }

-- one cut more
module _ (b : List ℕ) (c : Cube) (cs : List Cube) (t : Tally) (h : Tallied b cs t) where
  pub tally-apart : shares (codes b) c ≡ false → Tallied b (c ∷ cs) t
  unfolding ceiling_from meeting matters
  tally-apart e = record { nested = rw e h.nested; met = rw e h.met; kept = rw e h.kept }

  pub tally-met : shares (codes b) c ≡ true → length b ≤ length t.kept → (r : Tally)
      → r.nested ≡ capped (1 + marks (lost (codes b) c) * t.nested) → r.met ≡ t.met + 1
      → cube_of (length b) r.kept ≡ meet (cube_of (length b) t.kept) c → Tallied b (c ∷ cs) r
  unfolding ceiling_from meeting matters
  tally-met e l r n m k =
      record {
        nested = rw e (n ∙ rw (h.nested, frees-lost (codes b) c e) (capped-raised (frees (codes b) c) (ceiling_from (codes b) cs)));
        met = rw e (omega (arith, m, h.met));
        kept = rw (e, k) (lost-mark (codes b) (cube_of (length b) t.kept) c (kept-long b t.kept l) e ∙ ap (mark (codes b) c) h.kept);
      }

-- the second bound of the cuts counted
pub tally-over : (b : List ℕ) (cs : List Cube) (t : Tally) → Tallied b cs t → (s n : ℕ) → s ≡ marks (lost (codes b) (cube_of (length b) t.kept))
    → n ≡ capped (1 + t.met * capped (2 ^ s)) → n ≡ capped (ceiling_over (codes b) cs)
tally-over b cs t h s n i j = j ∙ capped-raised t.met (2 ^ s) ∙ rw (i, h.kept, h.met)

-- the cuts `rest` are left to count, and those behind them are counted
pub record Counted (b : List ℕ) (all rest : List (List ℕ)) (t : Tally) : Type 0 where
  pub long : AllLong (length b) rest
  pub few : t.met + length rest ≤ most_cuts
  pub behind : List (List ℕ)
  pub whole : all ≡ rest ++ behind
  pub tally : Tallied b (map codes behind) t

pub counted-none : {b : List ℕ} {all : List (List ℕ)} {t : Tally} → AllLong (length b) all → t.met + length all ≤ most_cuts → Tallied b [] t
    → Counted b all all t
counted-none {b} {all} l f h = record { long = l; few = f; behind = []; whole = sym (append-nil all); tally = h }

pub counted-all : {b : List ℕ} {all rest : List (List ℕ)} {t : Tally} → Counted b all rest t → rest ≡ [] → Tallied b (map codes all) t
counted-all {b} {all} {rest} {t} h e =
    subst (λ (cs : List (List ℕ)). Tallied b (map codes cs) t) (sym (h.whole ∙ ap (λ (r : List (List ℕ)). r ++ h.behind) e)) h.tally

module _ {b : List ℕ} {all rest : List (List ℕ)} {t : Tally} (h : Counted b all rest t) (c : List ℕ) (others : List (List ℕ)) (last : rest ≡ others ++ (c ∷ [])) where
  pub last-long : (length c ≡ length b) × AllLong (length b) others
  last-long = long-last (length b) others c (subst (AllLong (length b)) last h.long)

  fewer : t.met + length others + 1 ≤ most_cuts
  fewer = omega (arith, h.few, ap length last ∙ length-append others (c ∷ []))

  pub counted-turn : (r : Tally) → r.met ≤ t.met + 1 → ((cs : List Cube) → Tallied b cs t → Tallied b (codes c ∷ cs) r) → Counted b all others r
  counted-turn r m k =
      record {
        long = last-long.1;
        few = omega (arith, fewer, m);
        behind = c ∷ h.behind;
        whole = h.whole ∙ ap (λ (l : List (List ℕ)). l ++ h.behind) last ∙ append_assoc others (c ∷ []) h.behind;
        tally = k (map codes h.behind) h.tally;
      }

-- what is said of a tally's base is said of that base
pub counted-with : {b : Bor (List ℕ)} {c : Cube} {t r : Tally} → t.base ≡ b
    → ((cs : List Cube) → Tallied t.base.now cs t → Tallied t.base.now (c ∷ cs) r)
    → (cs : List Cube) → Tallied b.now cs t → Tallied b.now (c ∷ cs) r
counted-with {b} {c} {t} {r} e = subst (λ (x : Bor (List ℕ)). (cs : List Cube) → Tallied x.now cs t → Tallied x.now (c ∷ cs) r) e

pub counted-least : {b : Bor (List ℕ)} {n : ℕ} {t : Tally} → t.base ≡ b
    → ((cs : List Cube) → Tallied t.base.now cs t → n ≡ capped (ceiling (less (codes t.base.now) cs)))
    → (cs : List Cube) → Tallied b.now cs t → n ≡ capped (ceiling (less (codes b.now) cs))
counted-least {b} {n} {t} e = subst (λ (x : Bor (List ℕ)). (cs : List Cube) → Tallied x.now cs t → n ≡ capped (ceiling (less (codes x.now) cs))) e
