-- Reading a file record by record: one turn, and what is given back at a refusal and at the end. What is done at each accepted record is said of the
-- offsets passed.
--   begun, turned            the reader is at the first record after an accepted kind 1 record, and at the next one after one accepted record more
--   passed-more              which is then one of the records passed
--   width-refused, record-refused, whole_here    what the reading is: kind 1 refused, a record refused, the end reached
--   first-more               the first of the records passed that holds what h spells, with one record more
use Prim.Native.Nat.{ℕ, suc, ◌+◌, ◌-◌, ◌≤◌, ◌<◌}
use native.Mathlib.Omega.{arith}
use mathlib.Core.Path.{◌≡◌, refl, sym, ap, ◌∙◌}
use mathlib.Core.List.{List, [], ◌∷◌, ◌++◌, append_assoc, append-nil}
use mathlib.Core.Bool.{Bool, true, false, cond}
use lib.ListN.{length, take, drop, length-append}
use lib.Seq.{take-add, drop-drop}
use Rattle.model.specs.Difference as model
use Rattle.model.specs.Difference.{unheld, held, further}
use Rattle.answer.specs.Refusals.{number_of}
use Rattle.format.specs.Records.{next_at, width_of, first_at, width_fault, difference_fault}
use Rattle.format.specs.Files.{Reading, faulty, whole, fault_number, fault_offset, before, differences_from, read_file}
use Rattle.format.proofs.Recording.{record_of}
use Rattle.format.proofs.Filing.{from_end, from-refused, from-record, read-refused, read-begun}
use Rattle.format.proofs.Refusals.{numbered}
use Rattle.region.specs.declared.files.Refused.{Refused}
use Rattle.region.specs.Ahead.{ahead}
use Rattle.region.specs.Asked.{in_record, first_record, or_held}
use Rattle.region.specs.Reached.{after, passed, Reached}
use Rattle.region.specs.Reader.{RefusedIs}
use Rattle.region.proofs.Fronts.{front-own, front-next}
use Rattle.region.proofs.Onward.{ahead-next}

after_none : (r : Reading) → r ≡ after [] r
after_none (faulty f at) = refl
after_none (whole os) = refl

after_one : (os : List ℕ) (at : ℕ) (r : Reading) → after os (before at r) ≡ after (os ++ (at ∷ [])) r
after_one os at (faulty f o) = refl
after_one os at (whole rest) = ap whole (sym (append_assoc os (at ∷ []) rest))

pub begun : (s : List ℕ) → width_fault s ≡ 0 → Reached s (first_at s) 0
begun s e =
    record {
      fewer = omega arith;
      few = omega arith;
      counted = refl;
      onward = refl;
      read = read-begun s e ∙ after_none (differences_from (length s - 0) (width_of s) s (first_at s) 0);
    }

-- a refused file's parts by its reading
refused-at : (s : List ℕ) (r : Refused) → read_file s ≡ faulty (number_of r.refusal) r.offset → r.width ≡ width_of s → RefusedIs s r
refused-at s r q w = record { number = sym (ap fault_number q); offset = sym (ap fault_offset q); width = w }

pub width-refused : (s : List ℕ) (r : Refused) → number_of r.refusal ≡ width_fault s → r.offset ≡ 0 → r.width ≡ width_of s → RefusedIs s r
width-refused s r e o w = refused-at s r (read-refused s (λ y. numbered r.refusal (e ∙ y)) ∙ rw (e, o) refl) w

module _ {s : List ℕ} {at n : ℕ} (r : Reached s at n) where
  pub record-refused : (x : Refused) → at < length s → number_of x.refusal ≡ difference_fault false (width_of s) n s at → x.offset ≡ at
      → x.width ≡ width_of s → RefusedIs s x
  record-refused x l e o w =
      refused-at s x
      (r.read ∙ ap (after (passed s n)) (from-refused (width_of s) s at n r.fewer l (λ y. numbered x.refusal (e ∙ y))) ∙ rw (e, o) refl) w

  pub whole_here : length s ≤ at → read_file s ≡ whole (passed s n)
  whole_here l = r.read ∙ ap (after (passed s n)) (from_end (width_of s) s at n (length s - n) l) ∙ ap whole (append-nil (passed s n))

  module _ (l : at < length s) (f : difference_fault false (width_of s) n s at ≡ 0) where
    here : drop n (ahead s (first_at s)) ≡ at ∷ ahead s (next_at s at)
    here =
        r.onward ∙ ahead-next s at l
        ∙ ap (λ (k : ℕ). at ∷ ahead s k) (front-next (record_of false (width_of s) n s at f) (front-own s at))

    pub passed-more : passed s (n + 1) ≡ passed s n ++ (at ∷ [])
    passed-more = take-add n 1 (ahead s (first_at s)) ∙ ap (λ (k : List ℕ). passed s n ++ take 1 k) here

    pub turned : Reached s (next_at s at) (n + 1)
    turned =
        record {
          fewer = omega (arith, r.fewer);
          few = omega (arith, (record_of false (width_of s) n s at f).room);
          counted = ap length passed-more ∙ simp length-append (omega (arith, r.counted));
          onward = sym (drop-drop 1 n (ahead s (first_at s))) ∙ ap (drop 1) here;
          read =
              r.read
              ∙ ap (after (passed s n)) (from-record (width_of s) s at n r.fewer l f)
              ∙ after_one (passed s n) at (differences_from (length s - (n + 1)) (width_of s) s (next_at s at) (n + 1))
              ∙ ap (λ (os : List ℕ). after os (differences_from (length s - (n + 1)) (width_of s) s (next_at s at) (n + 1))) (sym passed-more);
        }

-- a header is asked of each record
further-or : (x : model.Holder) (b : Bool) (n : ℕ) → further (or_held x b n) ≡ or_held (further x) b (suc n)
further-or unheld true n = refl
further-or unheld false n = refl
further-or (held i) b n = refl

first-append : (w : ℕ) (h s os : List ℕ) (at : ℕ)
    → first_record w h s (os ++ (at ∷ [])) ≡ or_held (first_record w h s os) (in_record w h s at) (length os)
first-append w h s [] at = refl
first-append w h s (o ∷ os) at = go (in_record w h s o) (first-append w h s os at)
  where
    go : (b : Bool) → first_record w h s (os ++ (at ∷ [])) ≡ or_held (first_record w h s os) (in_record w h s at) (length os)
        → cond b (held 0) (further (first_record w h s (os ++ (at ∷ []))))
        ≡ or_held (cond b (held 0) (further (first_record w h s os))) (in_record w h s at) (suc (length os))
    go true ih = refl
    go false ih = ap further ih ∙ further-or (first_record w h s os) (in_record w h s at) (length os)

pub first-more : {s : List ℕ} {at n : ℕ} (r : Reached s at n) → at < length s → difference_fault false (width_of s) n s at ≡ 0 → (h : List ℕ)
    → first_record (width_of s) h s (passed s (n + 1)) ≡ or_held (first_record (width_of s) h s (passed s n)) (in_record (width_of s) h s at) n
first-more {s} {at} {n} r l f h =
    ap (first_record (width_of s) h s) (passed-more r l f) ∙ first-append (width_of s) h s (passed s n) at
    ∙ ap (or_held (first_record (width_of s) h s (passed s n)) (in_record (width_of s) h s at)) r.counted
