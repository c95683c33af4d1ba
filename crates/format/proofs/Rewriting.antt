-- What the calls write: where the number is 0, the bytes are accepted again, and hold exactly the headers of the operation.
--   tidy-same                a tidy file is tidied to the same bytes
--   tidy-again, region_tidy-again    tidying changes nothing in a file that was written tidied, such as its own
--   region_tidy-written, diff_intersect-written, region_intersect-written, diff_less-written, region_less-written
--                            the region that each call writes
--   in-region_tidy, in-diff_intersect, in-region_intersect, in-diff_less, in-region_less
--                            the headers that are in what each call writes
--   cube_meet-written, in-cube_meet, prefix-written, in-prefix-written    the cube that each call writes, and its headers
--   equal_fields-written, in-equal_fields    the single record that equality of fields writes, and its headers
use Prim.Native.Nat.{ℕ, ◌+◌, ◌≤◌}
use native.Mathlib.Omega.{arith}
use mathlib.Core.Path.{◌≡◌, sym, ap, subst, ◌∙◌}
use mathlib.Core.List.{List}
use mathlib.Core.Bool.{true, not, ◌&&◌}
use lib.ListN.{length, take, drop}
use borrow.Author.Tests.{not-false}
use Rattle.model.specs.Cube.{Header, Cube, holds, meet, shares}
use Rattle.model.specs.Difference.{Difference, Region, in_difference, in_region}
use Rattle.model.specs.Sized.{All, Sized, Good}
use Rattle.model.specs.Tidy.{tidy_region}
use Rattle.model.specs.Algebra.{intersection, intersections, subtraction, subtractions}
use Rattle.model.specs.Fields.{same_bits, prefix_cube, fields_equal}
use Rattle.model.proofs.Cubes.{in_meet}
use Rattle.model.proofs.Tidying.{in-tidy_region, tidy-tidy, tidy_region-keeps, sized-meet}
use Rattle.model.proofs.Setting.{in-intersection, in-intersections, in-subtraction, in-subtractions}
use Rattle.model.proofs.Setting.{good-intersection, good-intersections, good-subtraction, good-subtractions}
use Rattle.model.proofs.Field.{in-prefix, prefix-length, prefix-solid, in-equal, good-equal}
use Rattle.answer.specs.Answer.{wrote}
use Rattle.format.specs.Rows.{Rows, outcome}
use Rattle.format.specs.Limits.{widest, most_cuts}
use Rattle.format.specs.Bytes.{Bytes, cube_len, bits, read_cube, write_cube, lent_fault}
use Rattle.format.specs.Records.{width_of, difference_at, difference_fault, difference_bytes, file_bytes}
use Rattle.format.specs.Files.{fault_number, read_file, region_in}
use Rattle.format.specs.Told.{Told, wide, lent_record, lent_file, writing, writing_region}
use Rattle.format.specs.Calls.{cube_meet, region_tidy, diff_intersect, region_intersect, diff_less, region_less, prefix, equal_fields}
use Rattle.format.specs.Meaning.{Written, WrittenCube}
use Rattle.format.proofs.Reached.{reached, Refuses, Past, past}
use Rattle.format.proofs.Coding.{fault-solid, lent_length, lent-cube, lent-fault, read_length, write-length, write_bytes, write-accepted, read-write}
use Rattle.format.proofs.Heading.{length-bits}
use Rattle.format.proofs.Recording.{record_of, good-read, alone-difference, alone-accepted}
use Rattle.format.proofs.Filing.{file-bytes, file-of, file-good, file-cuts, file-count, write-file-read, width_read, file-accepted, region-read}

-- what is written
abbrev Wrote : Told → Type 0
Wrote x = x.answer.number ≡ 0

passed : (k : Rows Told) → Wrote (outcome k) → Refuses Wrote k → Past (outcome k) k
passed k e r = past Wrote k r e

-- region files
file-written : (w : ℕ) (r : Region) (room : ℕ) (x : Told) → All (Good w) r → 1 ≤ w → w ≤ widest → Past x (writing_region w r room)
    → Written w r x.bytes
file-written w r room x g some narrow p =
    let few = p.1.0 in
    rw p.1.1.1
    (record {
      bytes = file-bytes w r p.0;
      accepted = file-accepted w r g p.0 few some narrow;
      width = width_read w r g p.0 few some narrow;
      region = region-read w r g p.0 few some narrow;
    })

in-written : {w : ℕ} (r : Region) {bs : List ℕ} → Written w (tidy_region r) bs → (h : Header) → in_region (region_in bs) h ≡ in_region r h
in-written r f h = rw f.region (in-tidy_region r h)

-- FORMAT 120: a tidy file keeps its bytes
pub tidy-same : (s : List ℕ) (room : ℕ) → Bytes s → fault_number (read_file s) ≡ 0 → tidy_region (region_in s) ≡ region_in s → length s ≤ room
    → region_tidy s room ≡ record { answer = wrote (length s); bytes = s }
unfolding region_tidy
tidy-same s room b e tidy fits =
    let f = file-of s e in
    let same = write-file-read f b in
    let fit : length (file_bytes (width_of s) (region_in s)) ≤ room = rw same fits in
    rw tidy (sym (reached 4 (lent_file s 1 (writing_region (width_of s) (region_in s) room)) (e, (file-cuts f, (file-count f, (fit, tt))))) ∙ rw same)

pub tidy-again : {w : ℕ} (r : Region) {bs : List ℕ} → Written w (tidy_region r) bs → (room : ℕ) → length bs ≤ room
    → region_tidy bs room ≡ record { answer = wrote (length bs); bytes = bs }
tidy-again r {bs} f room fits = tidy-same bs room f.bytes f.accepted (rw f.region (tidy-tidy r)) fits

tidied-written : (w : ℕ) (r : Region) (room : ℕ) (x : Told) → All (Good w) r → 1 ≤ w → w ≤ widest → Past x (writing_region w (tidy_region r) room)
    → Written w (tidy_region r) x.bytes
tidied-written w r room x g some narrow p = file-written w (tidy_region r) room x (tidy_region-keeps w r g) some narrow p

-- each call that writes a region: the file that it writes, and that file's headers
module _ (s : List ℕ) (room : ℕ) (e : (region_tidy s room).answer.number ≡ 0) where
  pub region_tidy-written : Written (width_of s) (tidy_region (region_in s)) (region_tidy s room).bytes
  unfolding region_tidy
  region_tidy-written =
      let w = width_of s in
      let r = region_in s in
      let p = passed _ e (omega arith) in
      let f = file-of s p.0 in
      tidied-written w r room (region_tidy s room) (file-good f) f.width.some f.width.narrow p.1

  pub in-region_tidy : (h : Header) → in_region (region_in (region_tidy s room).bytes) h ≡ in_region (region_in s) h
  in-region_tidy h = in-written (region_in s) region_tidy-written h

  pub region_tidy-again : (again : ℕ) → length (region_tidy s room).bytes ≤ again
      → region_tidy (region_tidy s room).bytes again ≡ record { answer = wrote (length (region_tidy s room).bytes); bytes = (region_tidy s room).bytes }
  region_tidy-again again fits = tidy-again (region_in s) region_tidy-written again fits

-- two lent records, with any region made of their differences
records-written : (w : ℕ) (s t : List ℕ) (r : Region) (room : ℕ) → (Good w (difference_at w s 0) → Good w (difference_at w t 0) → All (Good w) r)
    → let x = outcome (wide w (lent_record w s 1 (lent_record w t 2 (writing_region w (tidy_region r) room)))) in
    x.answer.number ≡ 0 → Written w (tidy_region r) x.bytes
records-written w s t r room good e =
    let k = wide w (lent_record w s 1 (lent_record w t 2 (writing_region w (tidy_region r) room))) in
    let p = passed _ e (omega arith) in
    let g = good (good-read (record_of true w 0 s 0 p.1.1.0)) (good-read (record_of true w 0 t 0 p.1.1.1.0)) in
    tidied-written w r room (outcome k) g (omega arith) p.1.0 p.1.1.1.1

module _ (w : ℕ) (s t : List ℕ) (room : ℕ) (e : (diff_intersect w s t room).answer.number ≡ 0) where
  pub diff_intersect-written : Written w (tidy_region (intersection (difference_at w s 0) (difference_at w t 0))) (diff_intersect w s t room).bytes
  unfolding diff_intersect
  diff_intersect-written =
      let a = difference_at w s 0 in
      let b = difference_at w t 0 in
      records-written w s t (intersection a b) room (good-intersection w a b) e

  pub in-diff_intersect : (h : Header)
      → in_region (region_in (diff_intersect w s t room).bytes) h ≡ in_difference (difference_at w s 0) h && in_difference (difference_at w t 0) h
  in-diff_intersect h =
      let a = difference_at w s 0 in
      let b = difference_at w t 0 in
      in-written (intersection a b) diff_intersect-written h ∙ in-intersection a b h

module _ (w : ℕ) (s t : List ℕ) (room : ℕ) (e : (diff_less w s t room).answer.number ≡ 0) where
  pub diff_less-written : Written w (tidy_region (subtraction (difference_at w s 0) (difference_at w t 0))) (diff_less w s t room).bytes
  unfolding diff_less
  diff_less-written =
      let a = difference_at w s 0 in
      let b = difference_at w t 0 in
      records-written w s t (subtraction a b) room (good-subtraction w a b) e

  pub in-diff_less : (h : Header)
      → in_region (region_in (diff_less w s t room).bytes) h ≡ in_difference (difference_at w s 0) h && not (in_difference (difference_at w t 0) h)
  in-diff_less h =
      let a = difference_at w s 0 in
      let b = difference_at w t 0 in
      in-written (subtraction a b) diff_less-written h ∙ in-subtraction a b h

module _ (s t : List ℕ) (room : ℕ) (e : (region_intersect s t room).answer.number ≡ 0) where
  pub region_intersect-written : Written (width_of s) (tidy_region (intersections (region_in s) (region_in t))) (region_intersect s t room).bytes
  unfolding region_intersect
  region_intersect-written =
      let w = width_of s in
      let r = intersections (region_in s) (region_in t) in
      let p = passed _ e (omega arith) in
      let f = file-of s p.0 in
      let g = subst (λ (v : ℕ). All (Good v) (region_in t)) (sym p.1.1.0) (file-good (file-of t p.1.0)) in
      let both = good-intersections w (region_in s) (region_in t) (file-good f) g in
      tidied-written w r room (region_intersect s t room) both f.width.some f.width.narrow p.1.1.1

  pub in-region_intersect : (h : Header) → in_region (region_in (region_intersect s t room).bytes) h ≡ in_region (region_in s) h && in_region (region_in t) h
  in-region_intersect h =
      in-written (intersections (region_in s) (region_in t)) region_intersect-written h ∙ in-intersections (region_in s) (region_in t) h

module _ (s t : List ℕ) (room : ℕ) (e : (region_less s t room).answer.number ≡ 0) where
  pub region_less-written : Written (width_of s) (tidy_region (subtractions (region_in s) (difference_at (width_of s) t 0))) (region_less s t room).bytes
  unfolding region_less
  region_less-written =
      let w = width_of s in
      let b = difference_at w t 0 in
      let r = subtractions (region_in s) b in
      let p = passed _ e (omega arith) in
      let f = file-of s p.0 in
      let g = good-subtractions w (region_in s) b (file-good f) (good-read (record_of true w 0 t 0 p.1.0)) in
      tidied-written w r room (region_less s t room) g f.width.some f.width.narrow p.1.1

  pub in-region_less : (h : Header)
      → in_region (region_in (region_less s t room).bytes) h ≡ in_region (region_in s) h && not (in_difference (difference_at (width_of s) t 0) h)
  in-region_less h =
      let b = difference_at (width_of s) t 0 in
      in-written (subtractions (region_in s) b) region_less-written h ∙ in-subtractions (region_in s) b h

-- cubes
cube-written : (w : ℕ) (c : Cube) (room : ℕ) (x : Told) → Sized w c → Past x (writing (write_cube c) room) → WrittenCube w c x.bytes
cube-written w c room x g p =
    let l : length (write_cube c) ≡ cube_len w = write-length (cube_len (length c)) c ∙ ap cube_len g.wide in
    rw p.1
    (record {
      bytes = write_bytes (cube_len (length c)) c;
      accepted = lent-fault w (write_cube c) l ∙ rw (← g.wide) (write-accepted c g.filled);
      cube = rw (← g.wide) (read-write c);
    })

lent-sized : (w : ℕ) (bs : List ℕ) → lent_fault w bs ≡ 0 → Sized w (read_cube w bs)
lent-sized w bs e = record { wide = read_length w bs (lent_length w bs e); filled = fault-solid w bs (lent-cube w bs e) }

module _ (w : ℕ) (a b : List ℕ) (room : ℕ) (e : (cube_meet w a b room).answer.number ≡ 0) where
  pub cube_meet-written : WrittenCube w (meet (read_cube w a) (read_cube w b)) (cube_meet w a b room).bytes
  unfolding cube_meet
  cube_meet-written =
      let c = read_cube w a in
      let d = read_cube w b in
      let p = passed _ e (omega arith) in
      let g = sized-meet w c d (lent-sized w a p.1.1.0) (lent-sized w b p.1.1.1.0) (not-false (shares c d) p.1.1.1.1.0) in
      cube-written w (meet c d) room (cube_meet w a b room) g p.1.1.1.1.1

  pub in-cube_meet : (h : Header) → holds (read_cube w (cube_meet w a b room).bytes) h ≡ holds (read_cube w a) h && holds (read_cube w b) h
  in-cube_meet h = rw cube_meet-written.cube (in_meet (read_cube w a) (read_cube w b) h)

module _ (w s n m : ℕ) (value : List ℕ) (room : ℕ) (e : (prefix w s n m value room).answer.number ≡ 0) where
  prefix-facts : (s + m ≤ w) × (m ≤ length (bits value)) × Past (prefix w s n m value room) (writing (write_cube (prefix_cube w s m (bits value))) room)
  unfolding prefix
  prefix-facts =
      let p = passed _ e (omega arith) in
      (omega arith, rw (length-bits value) (omega arith), p.1.1.1.1.1.1.1)

  pub prefix-written : WrittenCube w (prefix_cube w s m (bits value)) (prefix w s n m value room).bytes
  prefix-written =
      let v = bits value in
      let f = prefix-facts in
      let g : Sized w (prefix_cube w s m v) = record { wide = prefix-length w s m v f.0 f.1; filled = prefix-solid w s m v } in
      cube-written w (prefix_cube w s m v) room (prefix w s n m value room) g f.2

  pub in-prefix-written : (h : Header) → length h ≡ w
      → holds (read_cube w (prefix w s n m value room).bytes) h ≡ same_bits (take m (drop s h)) (take m (bits value))
  in-prefix-written h l = rw prefix-written.cube (in-prefix w s m (bits value) h l prefix-facts.0 prefix-facts.1)

-- a single record
module _ (w p q n room : ℕ) (e : (equal_fields w p q n room).answer.number ≡ 0) where
  equal-facts : (w ≤ widest) × (p + n ≤ w) × (q + n ≤ w) × (length (fields_equal w p q n).cuts ≤ most_cuts)
      × ((equal_fields w p q n room).bytes ≡ difference_bytes w (fields_equal w p q n))
  unfolding equal_fields
  equal-facts =
      let f = passed _ e (omega arith) in
      (f.1.0, f.1.1.1.0, f.1.1.1.1.0, f.1.1.1.1.1.0, ap (λ (x : Told). x.bytes) f.1.1.1.1.1.1.1)

  pub equal_fields-written : (difference_fault true w 0 (equal_fields w p q n room).bytes 0 ≡ 0)
      × (difference_at w (equal_fields w p q n room).bytes 0 ≡ fields_equal w p q n)
  equal_fields-written =
      let d = fields_equal w p q n in
      let g = good-equal w p q n in
      let f = equal-facts in
      rw f.4 (alone-accepted w d g f.3 f.0, alone-difference w d g f.3 f.0)

  pub in-equal_fields : (h : Header) → length h ≡ w
      → in_difference (difference_at w (equal_fields w p q n room).bytes 0) h ≡ same_bits (take n (drop p h)) (take n (drop q h))
  in-equal_fields h l =
      ap (λ (d : Difference). in_difference d h) equal_fields-written.1 ∙ in-equal w p q n h l equal-facts.1 equal-facts.2
