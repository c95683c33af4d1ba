-- Adding what all pairs make.
--   pair q d t p            == what the difference d makes with the stop p
--   made-pairs              what it makes with all stops
--   Pairs                   == what holds at a stop: the stops before it made `done`, which is added, and the others make the rest
--   pairs-begin, pairs-omitted, pairs-added, pairs-refused, pairs-end    at the first stop, after a stop, and after the last
--   Records                 == what holds at a record: the records before it made `done`, which is counted, and the others make the rest
--   records-begin, records-added, records-refused, records-end    at the first record, after a record, and after the last
use Prim.Native.Nat.{ℕ}
use mathlib.Core.Path.{◌≡◌, refl, sym, ap, ◌∙◌}
use mathlib.Core.List.{List, [], ◌∷◌, ◌++◌, map, append-nil, append_assoc}
use mathlib.Core.Bool.{Bool, true, false}
use Rattle.std.proofs.Common.{Option, Some, None, Result, Ok, Err, is_some, subst}
use Rattle.answer.specs.declared.refusal.Refusal.{Refusal}
use Rattle.model.specs.Difference.{Difference, Region}
use Rattle.model.specs.Sized.{All}
use Rattle.model.specs.Tidy.{each, tidy_region}
use Rattle.region.specs.declared.front.Front.{Front}
use Rattle.region.specs.Front.{front_at, Stands, whole_difference}
use Rattle.region.specs.Ahead.{ahead}
use Rattle.algebra.specs.Stops.{stop_at, Room, pieces_of, MadeOf}
use Rattle.algebra.specs.Tidied.{difference_in, held}
use Rattle.algebra.specs.Totals.{stops, made, total, Counts, Counted, Adds}
use Rattle.algebra.specs.declared.piece.Piece.{Piece}
use Rattle.algebra.specs.declared.stop.Operation.{Operation}
use Rattle.algebra.specs.declared.stop.Stop.{Stop}
use Rattle.algebra.specs.declared.totals.Totals.{Totals}
use Rattle.algebra.proofs.Counting.{AddsTo, long-append, counts-none, add-none, adds-both, adds-over}
use Rattle.algebra.proofs.Stepping.{each-map, all-map}

abbrev pub pair : ℕ → Difference → List ℕ → Stop → Region
pair q d t p = tidy_region (pieces_of q d t p)

-- all stops, as they are gone over
pub made-pairs : (o : Operation) (q : ℕ) (t : List ℕ) (d : Difference) (x : ℕ) (all : List Stop) (old : List ℕ) (first : Totals) (new : List ℕ)
    (r : Result Totals Refusal) → all ≡ map (stop_at o q t) (stops o q t x) → Adds q (each (pair q d t) all) old first new r
    → Adds q (each (made o q t d) (stops o q t x)) old first new r
unfolding made
made-pairs o q t d x all old first new r e =
    subst (λ (g : Region). Adds q g old first new r) (ap (each (pair q d t)) e ∙ each-map (pair q d t) (stop_at o q t) (stops o q t x))

pub record Pairs (q : ℕ) (d : Difference) (t : List ℕ) (all : List Stop) (old : List ℕ) (first : Totals) (rest : List Stop) (out : List ℕ) (sum : Totals)
    (piece : Piece) : Type 0 where
  pub size : piece.size ≡ q
  pub stands : All (Room q t) rest
  pub done : Region
  pub made : each (pair q d t) all ≡ done ++ each (pair q d t) rest
  pub adds : AddsTo q done old first out sum

module _ (q : ℕ) (d : Difference) (t : List ℕ) (all : List Stop) (old : List ℕ) (first : Totals) where
  pub pairs-begin : (piece : Piece) → piece.size ≡ q → All (Room q t) all → Pairs q d t all old first all old first piece
  pairs-begin piece e a = record { size = e; stands = a; done = []; made = refl; adds = add-none q old first }

  module _ (rest : List Stop) (out : List ℕ) (sum : Totals) (piece : Piece) (v : Pairs q d t all old first rest out sum piece) where
    module _ (p : Stop) (ps : List Stop) (e : rest ≡ p ∷ ps) (two : Piece) (m : Option Unit) (made : MadeOf d t p piece two m) (b : Bool) (is : b ≡ is_some m) where
      whole : each (pair q d t) all ≡ (v.done ++ held two m) ++ each (pair q d t) ps
      whole =
          v.made
          ∙ rw (e, ← rw v.size at made.tidied) (sym (append_assoc v.done (held two m) (each (pair q d t) ps)))

      turn : (r : Region) → held two m ≡ r → (new : List ℕ) (next : Totals) → AddsTo q r out sum new next → Pairs q d t all old first ps new next two
      turn r h new next a =
          record {
            size = made.size ∙ v.size;
            stands = (rw e at v.stands).1;
            done = v.done ++ r;
            made = rw h at whole;
            adds = adds-both q v.done r old first out sum new (Ok next) v.adds a;
          }

      kept : (n : Option Unit) → is_some n ≡ true → held two n ≡ difference_in two ∷ []
      kept None k = cc
      kept (Some u) k = refl

      omitted : (n : Option Unit) → is_some n ≡ false → held two n ≡ []
      omitted None k = refl
      omitted (Some u) k = cc

      pub pairs-omitted : b ≡ false → Pairs q d t all old first ps out sum two
      pairs-omitted k = turn [] (omitted m (sym is ∙ k)) out sum (add-none q out sum)

      module _ (k : b ≡ true) (new : List ℕ) (x : Result Totals Refusal) (adds : Adds two.size (difference_in two ∷ []) out sum new x) where
        added : Adds q (difference_in two ∷ []) out sum new x
        added = subst (λ (n : ℕ). Adds n (difference_in two ∷ []) out sum new x) (made.size ∙ v.size) adds

        pub pairs-added : (next : Totals) → x ≡ Ok next → Pairs q d t all old first ps new next two
        pairs-added next i = turn (difference_in two ∷ []) (kept m (sym is ∙ k)) new next (rw i at added)

        pub pairs-refused : (r : Refusal) → x ≡ Err r → Adds q (each (pair q d t) all) old first new (Err r)
        pairs-refused r i =
            rw (whole, kept m (sym is ∙ k))
            (adds-over q (v.done ++ (difference_in two ∷ [])) (each (pair q d t) ps) old first new new r
            (adds-both q v.done (difference_in two ∷ []) old first out sum new (Err r) v.adds (rw i at added)))

    pub pairs-end : rest ≡ [] → Adds q (each (pair q d t) all) old first out (Ok sum)
    pairs-end e = rw (v.made, e, append-nil v.done) v.adds

-- what a record makes with all stops
abbrev pub row : Operation → ℕ → List ℕ → List ℕ → ℕ → Front → Region
row o q s t x f = each (made o q t (whole_difference q s f)) (stops o q t x)

pub record Records (o : Operation) (q : ℕ) (s t : List ℕ) (x : ℕ) (all : Region) (old : List ℕ) (rest : List Front) (out : List ℕ) (sum : Totals) (piece : Piece)
    : Type 0 where
  pub size : piece.size ≡ q
  pub stands : All (Stands q s) rest
  pub done : Region
  pub made : all ≡ done ++ each (row o q s t x) rest
  pub counts : Counts q done old out sum

module _ (o : Operation) (q : ℕ) (s t : List ℕ) (x : ℕ) where
  pub records-begin : (a : ℕ) (rest : List Front) (out : List ℕ) (sum : Totals) (piece : Piece) → rest ≡ map (front_at s) (ahead s a) → piece.size ≡ q
      → All (λ b. Stands q s (front_at s b)) (ahead s a) → sum.count ≡ 0 → sum.size ≡ 0 → Records o q s t x (total o q s a t x) out rest out sum piece
  unfolding total
  records-begin a rest out sum piece e k stand c z =
      record {
        size = k;
        stands = rw e (all-map (Stands q s) (front_at s) (ahead s a) stand);
        done = [];
        made = rw e (sym (each-map (row o q s t x) (front_at s) (ahead s a)));
        counts = counts-none q out sum c z;
      }

  module _ (all : Region) (old : List ℕ) (rest : List Front) (out : List ℕ) (sum : Totals) (piece : Piece) (v : Records o q s t x all old rest out sum piece) where
    module _ (f : Front) (fs : List Front) (e : rest ≡ f ∷ fs) (new : List ℕ) (r : Result Totals Refusal)
        (d : Difference) (is : d ≡ whole_difference piece.size s f)
        (adds : Adds piece.size (each (made o piece.size t d) (stops o piece.size t x)) out sum new r) where
      added-row : Counted q (v.done ++ row o q s t x f) old new r
      added-row =
          let here : Adds piece.size (row o piece.size s t x f) out sum new r =
          subst (λ (e : Difference). Adds piece.size (each (made o piece.size t e) (stops o piece.size t x)) out sum new r) is adds in
          (subst (λ (n : ℕ). Adds n (row o n s t x f) out sum new r) v.size here) v.done old v.counts

      whole-row : all ≡ (v.done ++ row o q s t x f) ++ each (row o q s t x) fs
      whole-row = v.made ∙ rw e (sym (append_assoc v.done (row o q s t x f) (each (row o q s t x) fs)))

      pub records-added : (two : Piece) → two.size ≡ piece.size → (next : Totals) → r ≡ Ok next → Records o q s t x all old fs new next two
      records-added two k next i =
          record { size = k ∙ v.size; stands = (rw e at v.stands).1; done = v.done ++ row o q s t x f; made = whole-row; counts = rw i at added-row }

      pub records-refused : (k : Refusal) → r ≡ Err k → Counted q all old new (Err k)
      records-refused k i = let c = rw i at added-row in (rw whole-row (long-append (v.done ++ row o q s t x f) (each (row o q s t x) fs) ∙ rw c.0), c.1)

    pub records-end : rest ≡ [] → Counted q all old out (Ok sum)
    records-end e = rw (v.made, e, append-nil v.done) v.counts
