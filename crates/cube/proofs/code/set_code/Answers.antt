-- `cube::code::set_code` meets its contract.
use Prim.Native.Nat.{◌+◌, ◌-◌, ◌*◌, ◌/◌, ◌%◌, ◌^◌, ◌≤◌, ◌<◌}
use native.Mathlib.Omega.{arith}
use mathlib.Core.Path.{◌≡◌, sym, ap, ◌∙◌}
use lib.ListN.{get_or, set}
use lib.Seq.{set_out}
use Rattle.format.specs.Bytes.{code_of, codes}
use Rattle.format.proofs.Coding.{length-codes}
use Rattle.cube.proofs.Coded.{weight-pow, code_here, code-min, room, codes-set}
use Rattle.cube.proofs.code.set_code.Goals as goal

-- the weight of the place, as the laws have it
weight : (c : goal.After-code_at) → let p = c.args.p in 64 / 2 ^ (2 * (p % 4)) ≡ 4 ^ (3 - p % 4)
weight c = weight-pow c.args.p

byte : (c : goal.After-code_at) → let x = c.args in get_or x.c.now (x.p / 4) 0 < 256
byte c = (c.slice_known-2-1.given (c.args.p / 4)).fits

was : (c : goal.After-code_at) → let x = c.args in
    c.code_at.result ≡ get_or x.c.now (x.p / 4) 0 / 4 ^ (3 - x.p % 4) % 4
was c = let x = c.args in c.code_at.ensures ∙ code_here x.c.now x.p

-- the code that is there is taken off its byte, and the other has room
taken : (c : goal.After-code_at) → let x = c.args in
    c.code_at.result * 4 ^ (3 - x.p % 4) ≤ get_or x.c.now (x.p / 4) 0
taken c = let x = c.args in rw (was c) (room (get_or x.c.now (x.p / 4) 0) x.p 0 (byte c) (omega arith)).0

laid : (c : goal.After-min) → let x = c.args in
    get_or x.c.now (x.p / 4) 0 - c.code_at.result * 4 ^ (3 - x.p % 4) + c.min.result * 4 ^ (3 - x.p % 4) < 256
laid c =
    let x = c.args in
    rw (was c.before) (room (get_or x.c.now (x.p / 4) 0) x.p c.min.result (byte c.before) (omega arith)).1

pub returns-then-c-at : goal.returns-then-c-at
returns-then-c-at c = let x = c.args in sym (set_out (codes x.c.now) x.p (code_of x.v) (omega (arith, length-codes x.c.now)))

pub overflow_mul-c : goal.overflow_mul-c
overflow_mul-c c = rw (weight c) (record { fits = omega (arith, byte c, taken c) })

pub overflow_sub-c : goal.overflow_sub-c
overflow_sub-c c = rw (weight c) (taken c)

pub overflow_add-c : goal.overflow_add-c
overflow_add-c c = rw (weight c.before) (record { fits = laid c })

pub returns : goal.returns
returns c =
    let x = c.args in
    rw (weight c.before, was c.before)
    (codes-set x.c.now x.p c.min.result (omega arith) (omega arith) ∙ ap (set (codes x.c.now) x.p) (ap code_of c.min.ensures ∙ code-min x.v))
