-- Where a table of tests answers, and what it then tells (`Tells`): the parts that the tables of several families of calls have.
--   answered x       == x is no refusal: its number is below 10
--   by-table         a table whose every row refuses tells its last line exactly where every test fails
--   and_then         where one table tells what another does, it tells where both are accepted
--   yes-no           a table that ends in yes or no tells `yes_no`
--   lent-tells, second-tells, two-tell    the tests of a width and a record, of a second record, of a width and two records pass exactly where those
--                    are accepted
--   file-tells       so do those of a region file
--   cube-size        a cube of w positions is written in as many bytes as w says
use Prim.Native.Nat.{ℕ, ◌≤◌, ◌<◌}
use native.Mathlib.Omega.{arith}
use mathlib.Core.Path.{◌≡◌, refl, sym, ap, ◌∙◌}
use mathlib.Core.List.{List}
use mathlib.Core.Bool.{Bool, true, false}
use lib.ListN.{length}
use Rattle.model.specs.Cube.{Cube}
use Rattle.format.specs.Rows.{Rows, last, outcome, passes, Reaches, nth}
use Rattle.format.specs.Limits.{widest}
use Rattle.format.specs.Bytes.{cube_len, write_cube}
use Rattle.format.specs.Told.{Told, wide, lent_record, lent_file, yes_or}
use Rattle.format.specs.Meaning.{Lent}
use Rattle.format.proofs.Reached.{reached, Past, Refuses, past}
use Rattle.format.proofs.Refusals.{record-refusal, file-refusal}
use Rattle.format.proofs.Coding.{write-length}
use Rattle.promises.specs.Accepted.{Tells, yes_no, Accepted}

abbrev pub answered : Told → Type 0
answered x = x.answer.number < 10

pub by-table : {Ok : Type 0} (n : ℕ) (k : Rows Told) → Refuses answered k → (Past (outcome k) k → Ok) → (Ok → Reaches n k)
    → Tells Ok (nth n k) (outcome k)
by-table n k r f g = record { accepted = λ l. f (past answered k r l); told = λ o. sym (reached n k (g o)) }

pub and_then : {P Q : Type 0} {x y z : Told} → Tells P y x → (P → Tells Q z y) → Tells (P × Q) z x
and_then a b =
    record {
      accepted = λ l. let p = a.accepted l in (p, (b p).accepted (rw (a.told p) at l));
      told = λ (p, q). a.told p ∙ (b p).told q;
    }

pub yes-no : {P : Type 0} {x : Told} (b : Bool) → Tells P (outcome (yes_or b)) x → Tells P (yes_no b) x
unfolding outcome passes
yes-no b a = record { accepted = a.accepted; told = λ o. a.told o ∙ either b }
  where
    either : (b : Bool) → outcome (yes_or b) ≡ yes_no b
    either true = refl
    either false = refl

-- what is lent
pub lent-tells : (w : ℕ) (s : List ℕ) (y : Told) → Tells (Lent w s) y (outcome (wide w (lent_record w s 1 (last y))))
lent-tells w s y = by-table 3 _ (omega (arith, record-refusal w s true 0 0)) (omega arith) (omega arith)

pub second-tells : (w : ℕ) (t : List ℕ) → 1 ≤ w → w ≤ widest → (y : Told) → Tells (Lent w t) y (outcome (lent_record w t 2 (last y)))
second-tells w t some narrow y = by-table 1 _ (omega (arith, record-refusal w t true 0 0)) (omega arith) (omega arith)

pub two-tell : (w : ℕ) (s t : List ℕ) (y : Told)
    → Tells (Lent w s × Lent w t) y (outcome (wide w (lent_record w s 1 (lent_record w t 2 (last y)))))
unfolding outcome
two-tell w s t y = and_then (lent-tells w s _) (λ l. second-tells w t l.some l.narrow y)

pub file-tells : (s : List ℕ) (operand : ℕ) (y : Told) → Tells (Accepted s) y (outcome (lent_file s operand (last y)))
file-tells s operand y = by-table 1 _ (omega (arith, file-refusal s)) (omega arith) (omega arith)

-- what is written
pub cube-size : (w : ℕ) (c : Cube) → length c ≡ w → length (write_cube c) ≡ cube_len w
cube-size w c e = write-length (cube_len (length c)) c ∙ ap cube_len e
