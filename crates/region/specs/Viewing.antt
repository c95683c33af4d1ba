-- What is handed back of a region file: a cube, and a difference after another.
--   viewed r           == the parts of a Stretch as the definition of a view has them
--   StretchIs s d i r  == r is the stretch of the file that s lends which the view of cube i of difference d has: its bytes, and that it lies there, in
--                         the caller's own buffer
--   PlaceIs s d i x    == x is that stretch, within the file, or what the view answers where there is no such cube
--   stepped r          == the parts of a Step as the definition of reading on has them
--   StepIs s place x   == x is the step of reading on at a place, or what it answers where it stays there
use Rattle.std.specs.Prelude.{ℕ, ◌+◌, ◌≤◌, ◌≡◌, List, length, take, drop, Result, MatchResult}
use Rattle.std.specs.Borrow.{Bor}
use Rattle.answer.specs.declared.Answer.{Answer}
use Rattle.format.specs.Calls.{Viewed, unseen, view, stay, read_on}
use Rattle.format.specs.Calls as calls
use Rattle.region.specs.declared.views.Stretch.{Stretch}
use Rattle.region.specs.declared.steps.Step.{Step}

abbrev pub viewed : Stretch → Viewed
viewed r = record { answer = r.answer; start = r.start; size = r.size }

pub record StretchIs (s : Bor (List ℕ)) (d i : ℕ) (r : Bor (List ℕ)) : Type 0 where
  pub bytes : r.now ≡ take (view s.now d i).size (drop (view s.now d i).start s.now)
  pub block : r.ref_ptr.0 ≡ s.ref_ptr.0
  pub place : r.ref_ptr.1 ≡ s.ref_ptr.1 + (view s.now d i).start

abbrev pub PlaceIs : List ℕ → ℕ → ℕ → Result Stretch Answer → Type 0
PlaceIs s d i x = MatchResult x (λ r. (viewed r ≡ view s d i) × (r.start + r.size ≤ length s)) (λ a. unseen a ≡ view s d i)

abbrev pub stepped : Step → calls.Step
stepped r = record { answer = r.answer; place = r.place }

abbrev pub StepIs : List ℕ → ℕ → Result Step Answer → Type 0
StepIs s place x = MatchResult x (λ r. stepped r ≡ read_on s place) (λ a. stay a place ≡ read_on s place)
