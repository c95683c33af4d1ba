-- `region::record::numbers_fault` meets its contract.
use Prim.Native.Nat.{ℕ, ◌+◌, ◌*◌, ◌≤◌}
use native.Mathlib.Omega.{arith}
use native.Mathlib.Nat.{mul-le-mul}
use mathlib.Core.Path.{◌≡◌, refl}
use mathlib.Core.List.{List}
use Rattle.region.specs.declared.front.Front.{Front}
use Rattle.region.specs.Front.{FrontIs}
use Rattle.std.proofs.lemmas.Result.{err_from_is_err_and}
use Rattle.format.specs.Records.{number_rows, count_at}
use Rattle.format.specs.Bytes.{cube_len}
use Rattle.format.specs.Limits.{most_cuts, difference_kind}
use Rattle.format.proofs.Lending.{frame_refused, frame-clean}
use Rattle.format.proofs.Reached.{rest, reached}
use Rattle.format.proofs.Refusals.{numbered}
use Rattle.region.proofs.Fronts.{after-alone, after-others}
use Rattle.region.proofs.record.numbers_fault.Goals as goal
use Rattle.region.proofs.record.numbers_fault.Goals.{else-alone-via-then-alone+else-front-record, else-alone-via-else-alone}

-- how many bytes the cubes take at most
few : (k q : ℕ) → k ≤ most_cuts → q ≤ 65535 → (k + 1) * q ≤ (most_cuts + 1) * 65535
few k q a b = mul-le-mul {n₂ = most_cuts + 1} {m₂ = 65535} (omega arith) b

-- what the count claims of them
claimed : {s : List ℕ} {at : ℕ} {f : Front} → FrontIs s at f → (w q : ℕ) → q ≡ cube_len w → (f.cuts + 1) * q ≡ (count_at s at + 1) * cube_len w
claimed i w q z = rw (i.cuts, z) refl

pub returns-in_err-frame_fault : goal.returns-in_err-frame_fault
returns-in_err-frame_fault c =
    let x = c.args in let r = x.record in
    let p = err_from_is_err_and c.from_residual.result c.from_residual.ensures.1 in
    rw (p.1, p.2) (frame_refused difference_kind r.bytes.now r.at _ c.in_err-frame_fault.ensures (rest 4 (number_rows x.alone x.w x.n r.bytes.now r.at)) (numbered _))

pub returns-then-n-ge-MOST_DIFFERENCES : goal.returns-then-n-ge-MOST_DIFFERENCES
returns-then-n-ge-MOST_DIFFERENCES c = let x = c.args in let r = x.record in reached 4 _ (omega (arith, frame-clean difference_kind r.bytes.now r.at 0 c.in_ok-frame_fault.ensures refl))

pub returns-then-length-lt-COUNTED : goal.returns-then-length-lt-COUNTED
returns-then-length-lt-COUNTED c = let x = c.args in let r = x.record in reached 5 _ (omega (arith, frame-clean difference_kind r.bytes.now r.at 0 c.in_ok-frame_fault.ensures refl))

pub returns-then-front-gt-MOST_CUTS : goal.returns-then-front-gt-MOST_CUTS
returns-then-front-gt-MOST_CUTS c = let x = c.args in let r = x.record in reached 6 _ (omega (arith, frame-clean difference_kind r.bytes.now r.at 0 c.in_ok-frame_fault.ensures refl))

pub returns-then-q-gt65535 : goal.returns-then-q-gt65535
returns-then-q-gt65535 c = let x = c.args in let r = x.record in reached 7 _ (omega (arith, frame-clean difference_kind r.bytes.now r.at 0 c.in_ok-frame_fault.ensures refl))

pub overflow_mul-front : goal.overflow_mul-front
overflow_mul-front c = omega (arith, few c.args.record.front.cuts c.cube_len-q.result (omega arith) (omega arith))

pub overflow_add-front-2 : goal.overflow_add-front-2
overflow_add-front-2 c = omega (arith, few c.args.record.front.cuts c.cube_len-q.result (omega arith) (omega arith))

pub returns-then-length-front : goal.returns-then-length-front
returns-then-length-front c =
    let x = c.args in let r = x.record in
    reached 7 _ (omega (arith, frame-clean difference_kind r.bytes.now r.at 0 c.in_ok-frame_fault.ensures refl, claimed r.here x.w _ c.cube_len-q.ensures))

pub returns-then-front-record : goal.returns-then-front-record
returns-then-front-record c =
    let x = c.args in let r = x.record in
    let given = r.here in
    reached 8 _ (omega (arith, frame-clean difference_kind r.bytes.now r.at 0 c.in_ok-frame_fault.ensures refl, claimed r.here x.w _ c.cube_len-q.ensures, after-alone x.alone r.bytes.now r.at c.if-alone.true, given))

pub returns : goal.returns
returns c =
    let x = c.args in let r = x.record in
    let given = r.here in
    elim c.else-alone.branch [
      | else-alone-via-then-alone+else-front-record w ↦
          reached 9 _ (omega (arith, frame-clean difference_kind r.bytes.now r.at 0 c.in_ok-frame_fault.ensures refl, claimed r.here x.w _ c.cube_len-q.ensures, after-alone x.alone r.bytes.now r.at w.if-alone.true, w.if-front-record.false, given))
      | else-alone-via-else-alone w ↦
          reached 9 _ (omega (arith, frame-clean difference_kind r.bytes.now r.at 0 c.in_ok-frame_fault.ensures refl, claimed r.here x.w _ c.cube_len-q.ensures, after-others x.alone r.bytes.now r.at w.if-alone.false, given))
    ]
