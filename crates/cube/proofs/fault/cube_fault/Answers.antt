-- `cube::fault::cube_fault` meets its contract: each return is a row of `part_rows`.
use mathlib.Core.Path.{◌≡◌, sym, ap, ◌∙◌}
use mathlib.Core.List.{List}
use mathlib.Core.Bool.{Bool, true, false, not}
use Prim.Native.Nat.{ℕ, suc, ◌+◌, ◌-◌, ◌/◌}
use Rattle.std.proofs.lemmas.Result.{err_from_is_err_and}
use lib.ListN.{length, take, drop}
use borrow.Author.Rules.{rules}
use Rattle.model.specs.Cube.{solid, shares}
use Rattle.format.specs.Bytes.{codes, all_free}
use Rattle.format.proofs.Reached.{reached}
use Rattle.format.proofs.Refusals.{numbered}
use Rattle.cube.proofs.Codes.{shares-self}
use Rattle.cube.proofs.Parts.{last-part}
use Rattle.cube.proofs.Faults.{short-fault, part_rows, cube-parts}
use Rattle.cube.proofs.fault.cube_fault.Goals as goal

-- what the calls on the whole and on parts of it say
clear : (c : List ℕ) (t : Bool) → t ≡ shares (codes c) (codes c) → solid (codes c) ≡ t
clear c t e = sym (shares-self (codes c)) ∙ sym e

front : (c : List ℕ) (t : Bool) → t ≡ shares (codes c) (codes c) → not (solid (codes c)) ≡ not t
front c t e = ap not (clear c t e)

rest : (c : List ℕ) (k : ℕ) (t : Bool) → t ≡ all_free (codes (take (length c - (k + 1)) (drop (k + 1) c))) → not (all_free (codes (drop (suc k) c))) ≡ not t
rest c k t e = ap (λ (l : List ℕ). not (all_free (codes l))) (sym (last-part c k)) ∙ ap not (sym e)

pub returns-then-meets : goal.returns-then-meets
returns-then-meets c = let x = c.args in short-fault x.w x.c.now c.if-c-whole.true true (clear x.c.now true c.if-meets.ensures)

pub returns-then-c-whole : goal.returns-then-c-whole
returns-then-c-whole c = let x = c.args in short-fault x.w x.c.now c.if-c-whole.true false (clear x.c.now false c.if-meets.ensures)

pub returns-then-not-meets : goal.returns-then-not-meets
returns-then-not-meets c =
    let x = c.args in
    reached 0 (part_rows x.w x.c.now) (front (take (x.w / 4) x.c.now) false c.if-not-meets.ensures) ∙ cube-parts x.w x.c.now (search rules)

pub returns-in_err-byte_fault : goal.returns-in_err-byte_fault
returns-in_err-byte_fault c =
    let x = c.args in
    let p = err_from_is_err_and c.from_residual.result c.from_residual.ensures.1 in
    rw (p.1, p.2)
    (c.in_err-byte_fault.ensures
    ∙ reached 1 (part_rows x.w x.c.now) (
      front (take (x.w / 4) x.c.now) true c.if-not-meets.ensures,
      λ e. numbered c.in_err-byte_fault.field-0.0 (c.in_err-byte_fault.ensures ∙ e),
    )
    ∙ cube-parts x.w x.c.now (search rules))

pub returns-then-all_free : goal.returns-then-all_free
returns-then-all_free c =
    let x = c.args in
    reached 3 (part_rows x.w x.c.now) (
      front (take (x.w / 4) x.c.now) true c.if-not-meets.ensures,
      (sym c.in_ok-byte_fault.ensures, (rest x.c.now (x.w / 4) true c.if-all_free.ensures, tt)),
    )
    ∙ cube-parts x.w x.c.now (search rules)

pub returns : goal.returns
returns c =
    let x = c.args in
    reached 2 (part_rows x.w x.c.now) (
      front (take (x.w / 4) x.c.now) true c.if-not-meets.ensures,
      (sym c.in_ok-byte_fault.ensures, rest x.c.now (x.w / 4) false c.if-all_free.ensures),
    )
    ∙ cube-parts x.w x.c.now (search rules)
