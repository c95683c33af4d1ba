-- Cubes of a record as pieces, and the ceiling of its difference.
--   ceiling-told               what the call `ceiling` tells of an accepted record
--   piece-cube                 bytes that are copied to the front of a piece are its cube
use Prim.Native.Nat.{ℕ}
use mathlib.Core.Path.{◌≡◌, refl, sym, ap, ◌∙◌}
use mathlib.Core.List.{List}
use mathlib.Core.Bool.{true}
use lib.ListN.{length, take}
use Rattle.model.specs.Ceiling.{ceiling, capped}
use Rattle.answer.specs.Answer.{accepted, counted}
use Rattle.format.specs.Rows.{last, outcome}
use Rattle.format.specs.Bytes.{codes}
use Rattle.format.specs.Records.{difference_at}
use Rattle.format.specs.Told.{silent, one_record}
use Rattle.format.specs.Calls.{ceiling_of}
use Rattle.format.proofs.Reached.{reached}
use Rattle.format.proofs.Recording.{record_of}
use Rattle.format.proofs.Lending.{one-passed, one_lent}
use Rattle.cube.specs.Whole.{cube_of}
use Rattle.region.specs.declared.difference.Difference.{Difference}
use Rattle.region.specs.Difference.{difference_of, DifferenceAt}
use Rattle.walk.proofs.Accepted.{record-ceiling}

pub ceiling-told : (w : ℕ) (s : List ℕ) → outcome (one_record w s) ≡ accepted → {d : Difference} → DifferenceAt w s 0 d → (n : ℕ)
    → n ≡ capped (ceiling (difference_of d)) → silent (counted 0 n) ≡ ceiling_of w s
unfolding ceiling_of
ceiling-told w s e i n h =
    let k = last (silent (counted 0 (capped (ceiling (difference_at w s 0))))) in
    ap (λ (m : ℕ). silent (counted 0 m)) (h ∙ ap capped (record-ceiling (record_of true w 0 s 0 (one_lent w s accepted (sym e) refl).sound) i))
    ∙ reached 0 k tt ∙ one-passed w s accepted (sym e) silent k refl

pub piece-cube : (q : ℕ) (bytes piece : List ℕ) → q ≡ length bytes → take (length bytes) piece ≡ bytes → cube_of q piece ≡ codes bytes
unfolding cube_of
piece-cube q bytes piece l e = rw l (ap codes e)
