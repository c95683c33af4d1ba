-- Stepping through an accepted file by its records' lengths. A loop `while at < s.len() { .. at = front_at(s, at).next; }` has the invariant
-- `AllAccepted w s at`, beside what it says of `region_ahead w s at`, the region of the differences still to come.
--   ahead-end, ahead-next       the offsets from an offset on: none at the end; else this one and those from the next record on
--   region-end, region-next     their region
--   listed-ahead                of accepted records they are those that are listed
--   seek-end, seek-turn, seek-found   the offset that has d before it
--   AllAccepted w s at          the records from an offset to the end are all accepted
--   onward-file, file-ahead, file-region   in an accepted file the records from the first on are, and theirs are the
--                               offsets and the region that reading the file gives
--   file-some                   an accepted file has bytes
--   file-read                   a file where the reader found no fault is accepted
--   onward-record               the record here is accepted
--   onward-next                 the records after it are all accepted
use Prim.Native.Nat.{ℕ, suc, ◌+◌, ◌≤◌, ◌<◌, min}
use borrow.Author.Tests.{leb-true, leb-false}
use lib.Dec.{leb}
use native.Mathlib.Omega.{arith}
use mathlib.Core.Path.{◌≡◌, refl, sym, ap, ◌∙◌}
use mathlib.Core.List.{List, [], ◌∷◌}
use mathlib.Core.Bool.{Bool, true, false}
use lib.ListN.{length, get_or}
use Rattle.format.specs.Records.{width_of, first_at, difference_at}
use Rattle.format.specs.Files.{read_file, offsets, region_of, region_in}
use Rattle.format.proofs.Recording.{Record}
use Rattle.format.proofs.Filing.{Listed, ended, listed, listed-turn, File, file-of}
use Rattle.region.specs.Front.{front_at}
use Rattle.region.specs.Ahead.{ahead, region_ahead}
use Rattle.region.specs.Reader.{AcceptedIs}
use Rattle.region.specs.declared.files.File as result
use Rattle.region.proofs.Fronts.{front-own, front-next}
use Rattle.region.proofs.Strides.{steps-end, steps-turn}

module _ (s : List ℕ) (at : ℕ) where
  pub ahead-end : length s ≤ at → ahead s at ≡ []
  ahead-end h = steps-end (λ x. (front_at s x).next) (length s) at h

  pub ahead-next : at < length s → ahead s at ≡ at ∷ ahead s (front_at s at).next
  ahead-next h = steps-turn (λ x. (front_at s x).next) (length s) (λ x l. omega arith) at h

  pub seek-end : (d z : ℕ) → length s ≤ at → get_or (ahead s at) d z ≡ z
  seek-end d z h = rw (ahead-end h)

  seek-on : (d z : ℕ) → at < length s → get_or (ahead s at) (suc d) z ≡ get_or (ahead s (front_at s at).next) d z
  seek-on d z h = rw (ahead-next h)

  -- a turn at the end stays there
  pub seek-turn : (d z : ℕ) → get_or (ahead s at) (suc d) z ≡ get_or (ahead s (front_at s at).next) d z
  seek-turn d z = go (leb (length s) at) refl
    where
      go : (b : Bool) → leb (length s) at ≡ b → get_or (ahead s at) (suc d) z ≡ get_or (ahead s (front_at s at).next) d z
      go false e = seek-on d z (leb-false (length s) at e)
      go true e =
          let l = leb-true (length s) at e in
          let m : length s ≤ (front_at s at).next = omega arith in
          seek-end (suc d) z l ∙ sym (rw (steps-end (λ x. (front_at s x).next) (length s) (front_at s at).next m))

  pub seek-found : get_or (ahead s at) 0 (length s) ≡ min at (length s)
  seek-found = go (leb (length s) at) refl
    where
      go : (b : Bool) → leb (length s) at ≡ b → get_or (ahead s at) 0 (length s) ≡ min at (length s)
      go false e = let l = leb-false (length s) at e in rw (ahead-next l) (omega arith)
      go true e = let l = leb-true (length s) at e in seek-end 0 (length s) l ∙ omega arith

module _ (w : ℕ) (s : List ℕ) (at : ℕ) where
  pub region-end : length s ≤ at → region_ahead w s at ≡ []
  region-end h = ap (region_of w s) (ahead-end s at h)

  pub region-next : at < length s → region_ahead w s at ≡ difference_at w s at ∷ region_ahead w s (front_at s at).next
  region-next h = ap (region_of w s) (ahead-next s at h)

pub listed-ahead : {w : ℕ} {s : List ℕ} {at n : ℕ} {os : List ℕ} → Listed w s at n os → ahead s at ≡ os
listed-ahead {s = s} (ended {at} h) = ahead-end s at h
listed-ahead {s = s} (listed {at} r rest) =
    ahead-next s at (omega arith) ∙ ap (λ (os : List ℕ). at ∷ os) (ap (ahead s) (front-next r (front-own s at)) ∙ listed-ahead rest)

pub record AllAccepted (w : ℕ) (s : List ℕ) (at : ℕ) : Type 0 where
  pub passed : ℕ
  pub list : Listed w s at passed (ahead s at)

pub file-ahead : {s : List ℕ} → File s → offsets (read_file s) ≡ ahead s (first_at s)
file-ahead f = sym (listed-ahead f.list)

pub onward-file : {s : List ℕ} → File s → AllAccepted (width_of s) s (first_at s)
onward-file f = record { passed = 0; list = rw (← file-ahead f) f.list }

pub file-region : {s : List ℕ} → File s → region_in s ≡ region_ahead (width_of s) s (first_at s)
file-region {s} f = ap (region_of (width_of s) s) (file-ahead f)

pub file-some : {s : List ℕ} → File s → 0 < length s
unfolding first_at
file-some f = omega (arith, f.width.long)

pub file-read : {s : List ℕ} {r : result.File} → AcceptedIs s r → File s
file-read {s} i = file-of s i.accepted

module _ {w : ℕ} {s : List ℕ} {at : ℕ} (o : AllAccepted w s at) (h : at < length s) where
  pub onward-record : Record false w 0 s at
  onward-record = let r = (listed-turn o.list h).2 in omega (arith, r)

  pub onward-next : AllAccepted w s (front_at s at).next
  onward-next =
      let t = listed-turn o.list h in
      rw (front-next onward-record (front-own s at)) (record { passed = o.passed + 1; list = rw (listed-ahead t.3) t.3 })
