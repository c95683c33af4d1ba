-- Views, from the parts that find them. `at` is the offset that `seek` gives for the difference d, and an accepted record stands there.
--   view-fault, view-none, view-beyond, view-cube    the outcome where the file is refused, where it has no such difference, where that has no such cube, and else
--   view-room        the cube lies within the file
use Prim.Native.Nat.{ℕ, zero, suc, ◌+◌, ◌*◌, ◌≤◌, ◌<◌}
use native.Mathlib.Nat.{mul-le-mul_right}
use native.Mathlib.Omega.{arith}
use mathlib.Core.Path.{◌≡◌, refl, sym, ap, ◌∙◌}
use mathlib.Core.List.{List, [], ◌∷◌}
use mathlib.Core.Bool.{false}
use lib.ListN.{length, get_or}
use Rattle.answer.specs.Answer.{yes, refused, fault}
use Rattle.answer.specs.Refusals.{number_of}
use Rattle.format.specs.Bytes.{cube_len}
use Rattle.format.specs.Records.{width_of, first_at}
use Rattle.format.specs.Files.{read_file, offsets}
use Rattle.format.specs.Calls.{unseen, view}
use Rattle.format.proofs.Reached.{reached}
use Rattle.format.proofs.Recording.{Record}
use Rattle.format.proofs.Filing.{file-of}
use Rattle.format.proofs.Viewing.{listed_at}
use Rattle.format.proofs.Refusals.{numbered}
use Rattle.region.specs.Ahead.{ahead}
use Rattle.region.specs.Reader.{AcceptedIs, RefusedIs}
use Rattle.region.specs.declared.files.File.{File}
use Rattle.region.specs.declared.files.Refused.{Refused}
use Rattle.region.specs.declared.front.Front.{Front}
use Rattle.region.specs.Front.{FrontIs}
use Rattle.region.proofs.Fronts.{front-base, front-stands}
use Rattle.region.proofs.Onward.{file-ahead}

-- what stands in a list does not depend on what is beyond it
inside : (l : List ℕ) (d y z : ℕ) → d < length l → get_or l d y ≡ get_or l d z
inside [] d y z h = absurd (omega arith)
inside (x ∷ l) zero y z h = refl
inside (x ∷ l) (suc d) y z h = inside l d y z (omega arith)

module _ (s : List ℕ) (d i : ℕ) where
  pub view-fault : (r : Refused) → RefusedIs s r → unseen (fault (number_of r.refusal) 1 r.offset) ≡ view s d i
  unfolding view
  view-fault r f = rw (f.number, f.offset) (reached 0 _ (λ z. numbered r.refusal (f.number ∙ z)))

  module _ (r : File) (f : AcceptedIs s r) where
    pub view-none : r.count ≤ d → unseen (refused 23) ≡ view s d i
    unfolding view
    view-none l = reached 1 _ (f.accepted, omega (arith, f.count))

    module _ (l : d < r.count) (at : ℕ) (e : at ≡ get_or (ahead s (first_at s)) d (length s)) where
      offset : at ≡ get_or (offsets (read_file s)) d 0
      offset =
          let o = file-ahead (file-of s f.accepted) in
          e ∙ ap (λ (os : List ℕ). get_or os d (length s)) (sym o) ∙ inside (offsets (read_file s)) d (length s) 0 (omega (arith, f.count))

      here : (n : ℕ) × Record false (width_of s) n s at
      here = rw offset (listed_at (file-of s f.accepted).list d (omega (arith, f.count)))

      module _ {front : Front} (p : FrontIs s at front) where
        pub view-beyond : front.cuts < i → unseen (refused 23) ≡ view s d i
        unfolding view
        view-beyond b = let k = rw (p.cuts, offset) at b in reached 2 _ (f.accepted, (omega (arith, f.count), k))

        module _ (b : i ≤ front.cuts) (q : ℕ) (z : q ≡ cube_len r.width) where
          size : q ≡ cube_len (width_of s)
          size = z ∙ ap cube_len f.width

          pub view-cube : record { answer = yes; start = front.base + i * q; size = q } ≡ view s d i
          unfolding view
          view-cube =
              let k = rw (p.cuts, offset) at b in
              rw (size, front-base here.1 p, offset) (reached 3 _ (f.accepted, (omega (arith, f.count), (k, tt))))

          pub view-room : front.base + i * q + q ≤ length s
          view-room =
              let k : i + 1 ≤ front.cuts + 1 = omega arith in
              rw size (omega (arith, mul-le-mul_right (cube_len (width_of s)) k, front-stands here.1 p))
