-- What counts for the ceiling.
--   ceiling-missed       a cut that does not meet the base counts in neither of the two bounds, wherever it stands
--   ceiling-at-most      the ceiling is at most each of them
--   matters-long         each position of the base has its place among the marks
use Prim.Native.Nat.{◌≤◌}
use native.Mathlib.Nat.{min-le_left, min-le_right}
use native.Mathlib.Omega.{arith}
use mathlib.Core.Path.{◌≡◌, refl, ◌∙◌}
use mathlib.Core.List.{List, [], ◌∷◌, ◌++◌}
use mathlib.Core.Bool.{Bool, true, false, cond}
use lib.ListN.{length, length-map}
use Rattle.model.specs.Cube.{Cube, shares}
use Rattle.model.specs.Difference.{Difference, less}
use Rattle.model.specs.Ceiling.{ceiling_from, meeting, mark, matters, ceiling_over, ceiling}

-- what a cut adds nothing to in front, it adds nothing to anywhere
wherever : {A : Type 0} (f : List Cube → A) (c : Cube) → ((x : Cube) (l m : List Cube) → f l ≡ f m → f (x ∷ l) ≡ f (x ∷ m))
    → ((ds : List Cube) → f (c ∷ ds) ≡ f ds) → (cs ds : List Cube) → f (cs ++ (c ∷ ds)) ≡ f (cs ++ ds)
wherever f c behind front [] ds = front ds
wherever f c behind front (x ∷ cs) ds = behind x (cs ++ (c ∷ ds)) (cs ++ ds) (wherever f c behind front cs ds)

module _ (b c : Cube) (e : shares b c ≡ false) where
  from-missed : (cs ds : List Cube) → ceiling_from b (cs ++ (c ∷ ds)) ≡ ceiling_from b (cs ++ ds)
  unfolding ceiling_from
  from-missed = wherever (ceiling_from b) c (λ x l m h. rw h) (λ ds. rw e)

  meeting-missed : (cs ds : List Cube) → meeting b (cs ++ (c ∷ ds)) ≡ meeting b (cs ++ ds)
  unfolding meeting
  meeting-missed = wherever (meeting b) c (λ x l m h. rw h) (λ ds. rw e)

  matters-missed : (cs ds : List Cube) → matters b (cs ++ (c ∷ ds)) ≡ matters b (cs ++ ds)
  unfolding matters
  matters-missed = wherever (matters b) c (λ x l m h. rw h) (λ ds. rw e)

  pub ceiling-missed : (cs ds : List Cube) → ceiling (less b (cs ++ (c ∷ ds))) ≡ ceiling (less b (cs ++ ds))
  ceiling-missed cs ds = rw (from-missed cs ds, meeting-missed cs ds, matters-missed cs ds)

pub ceiling-at-most : (d : Difference) → (ceiling d ≤ ceiling_from d.base d.cuts) × (ceiling d ≤ ceiling_over d.base d.cuts)
ceiling-at-most d = (min-le_left _ _, min-le_right _ _)

-- the marks
mark-long : (b c : Cube) (ms : List Bool) → length (mark b c ms) ≡ length ms
unfolding mark
mark-long [] c ms = refl
mark-long (x ∷ b) [] ms = refl
mark-long (x ∷ b) (y ∷ c) [] = refl
mark-long (x ∷ b) (y ∷ c) (m ∷ ms) = omega (arith, mark-long b c ms)

pub matters-long : (b : Cube) (cs : List Cube) → length (matters b cs) ≡ length b
unfolding matters
matters-long b [] = length-map b _
matters-long b (c ∷ cs) = go (shares b c) (matters-long b cs)
  where
    go : (g : Bool) → length (matters b cs) ≡ length b → length (cond g (mark b c (matters b cs)) (matters b cs)) ≡ length b
    go true e = mark-long b c (matters b cs) ∙ e
    go false e = e
