-- What is promised of views, by `view` and `view_number`. Beside the lines that the page has of every call:
--   view-shows       where the number is 1, the stretch is the cube of that index in that difference
--   view-yes         the number is 1 wherever there is such a cube
--   view-23          it is 23 in any other accepted file
--   view-refused     it is the file's refusal where the file is refused
--   view-nothing     a view whose number is not 1 is a stretch of length 0
use Prim.Native.Nat.{ℕ, ◌<◌}
use native.Mathlib.Omega.{arith}
use mathlib.Core.Path.{◌≡◌, refl, sym, ap, ap₂, ◌∙◌}
use mathlib.Core.List.{List, []}
use lib.ListN.{length, get_or, length-map}
use denote.Ref.{Bor}
use Rattle.model.specs.Difference.{Difference, less}
use Rattle.model.specs.Index.{difference_of}
use Rattle.answer.specs.Answer.{yes, refused, fault}
use Rattle.format.specs.Records.{count_at, width_of, difference_at}
use Rattle.format.specs.Files.{read_file, fault_number, fault_offset, offsets, region_in}
use Rattle.format.specs.Calls.{Viewed, view, unseen}
use Rattle.format.specs.Meaning.{Seen}
use Rattle.format.proofs.Reached.{reached, each}
use Rattle.format.proofs.Recording.{cuts-count}
use Rattle.format.proofs.Filing.{file-of}
use Rattle.format.proofs.Viewing.{map_at, listed_at, view-told}
use Rattle.region.specs.Viewing.{StretchIs}
use Rattle.region.proofs.view as view-call
use Rattle.region.proofs.view_number as view-number-call
pub use Rattle.region.proofs.view.Met.{met as view-met}
pub use Rattle.region.proofs.view_number.Met.{met as view-number-met}
use Rattle.promises.specs.Outcome.{Promise, OneResult, SameStretch}
use Rattle.promises.specs.Accepted.{Accepted, Indexed}
use Rattle.promises.proofs.Agreeing.{same-result}

-- VIEW: a cube, as the stretch of the file where it stands (FORMAT 88)
pub view-promise : Promise view-call.Kinds.ps view-call.Kinds.r view-call.Reads.Asked view-call.Reads.Learnt
    (λ κs (s, (d, (i, _))) x e. StretchIs s d i x)
view-promise = record { anything = λ κs a. tt; permits = λ κs a x e l. l }

pub view-agrees : (s : Bor (List ℕ)) (d i : ℕ) (r r' : Bor (List ℕ)) → StretchIs s d i r → StretchIs s d i r' → SameStretch r r'
view-agrees s d i r r' p q =
    (p.bytes ∙ sym q.bytes, ap₂ (λ (b o : ℕ). (b, o)) (p.block ∙ sym q.block) (p.place ∙ sym q.place))

-- VIEW_NUMBER: the number of a view, as a question of its own (FORMAT 91)
pub view-number-promise : Promise view-number-call.Kinds.ps view-number-call.Kinds.r view-number-call.Reads.Asked view-number-call.Reads.Learnt
    (λ κs (s, (d, (i, _))) x e. x ≡ (view s.now d i).answer)
view-number-promise = record { anything = λ κs a. tt; permits = λ κs a x e l. l }

pub view-number-agrees : (s : List ℕ) (d i : ℕ) → OneResult (view s d i).answer
view-number-agrees s d i = same-result _

-- what both go by
module _ (s : List ℕ) (d i : ℕ) where
  pub view-shows : (view s d i).answer.number ≡ 1 → Seen s d i (view s d i)
  view-shows = view-told s d i

  cuts-at : Accepted s → d < length (offsets (read_file s)) → length (difference_of (region_in s) d).cuts ≡ count_at s (get_or (offsets (read_file s)) d 0)
  cuts-at e h =
      let this = map_at (difference_at (width_of s) s) (offsets (read_file s)) d (less [] []) h in
      let (_, found) = listed_at (file-of s e).list d h in
      ap (λ (x : Difference). length x.cuts) this ∙ cuts-count found

  pub view-yes : Indexed s d i → (view s d i).answer ≡ yes
  unfolding view
  view-yes x =
      let l : d < length (offsets (read_file s)) = omega (arith, length-map (offsets (read_file s)) (difference_at (width_of s) s)) in
      ap (λ (v : Viewed). v.answer) (sym (reached 3 _ (x.file, (omega arith, (omega (arith, cuts-at x.file l), tt)))))

  pub view-23 : Accepted s → (Indexed s d i → ⊥) → view s d i ≡ unseen (refused 23)
  unfolding view
  view-23 e f =
      each (λ v. v ≡ unseen (refused 23)) _ (
        λ h. absurd (h e),
        λ a. (
          λ h. refl,
          λ l. (
            λ h. refl,
            λ m. absurd (f (record {
              file = e;
              difference = omega (arith, length-map (offsets (read_file s)) (difference_at (width_of s) s));
              index = omega (arith, cuts-at e (omega arith));
            })),
          ),
        ),
      )

  pub view-refused : (Accepted s → ⊥) → view s d i ≡ unseen (fault (fault_number (read_file s)) 1 (fault_offset (read_file s)))
  unfolding view
  view-refused f = sym (reached 0 _ f)

  -- FORMAT 90: no cube, so no bytes
  pub view-nothing : ((view s d i).answer.number ≡ 1 → ⊥) → (view s d i).size ≡ 0
  unfolding view
  view-nothing = each (λ (v : Viewed). (v.answer.number ≡ 1 → ⊥) → v.size ≡ 0) _ (omega arith)
