use Prim.Native.Nat.{ℕ, ◌/◌}
use native.Mathlib.Omega.{arith}
use mathlib.Core.List.{List}
use mathlib.Core.Path.{◌≡◌, refl, ap, ap₂, ◌∙◌}
use lib.ListN.{set}
use Rattle.format.specs.Bytes.{header_bytes}
use Rattle.format.specs.Told.{over}
use Rattle.cube.proofs.Showing.{whole, show-wide, show-short, show-turn, show-even, show-odd}
use Rattle.cube.proofs.shown.show.Goals.{then-w-gt-WIDEST-via-then-w-gt-WIDEST, then-w-gt-WIDEST-via-else-w-gt-WIDEST+then-out-header_len}
use Rattle.cube.proofs.shown.show.Goals as goal

pub returns-then-w-gt-WIDEST : goal.returns-then-w-gt-WIDEST
returns-then-w-gt-WIDEST c =
    let x = c.args in
    elim c.then-w-gt-WIDEST.branch [
      | then-w-gt-WIDEST-via-then-w-gt-WIDEST w ↦ show-wide x.piece x.out.now x.w w.if-w-gt-WIDEST.true
      | then-w-gt-WIDEST-via-else-w-gt-WIDEST+then-out-header_len w ↦ show-short x.piece (omega arith) x.out.now x.w w.if-w-gt-WIDEST.false (omega (arith, w.if-out-header_len.true, w.header_len.ensures))
    ]

pub loop-j-init : goal.loop-j-init
unfolding header_bytes
loop-j-init c = refl

pub loop-j-preserved : goal.loop-j-preserved
loop-j-preserved c =
    let l = c.loop-j in
    let x = c.args in
    ap (λ (o : List ℕ). set o l.j c.shown_byte.result) l.invariant
    ∙ show-turn x.piece (omega arith) x.out.now l.j c.shown_byte.result (omega arith) (omega arith) c.shown_byte.ensures

pub returns-then-rest-ne0 : goal.returns-then-rest-ne0
returns-then-rest-ne0 c =
    let l = c.loop-j in
    let x = c.args in
    let e : l.j ≡ x.w / 8 = omega arith in
    ap₂ (λ (o : List ℕ) (y : ℕ). set o (x.w / 8) y)
    (l.invariant ∙ ap (λ (k : ℕ). over x.out.now (header_bytes k (whole x.piece))) e) c.front_bits.ensures
    ∙ show-odd x.piece (omega arith) x.out.now x.w c.shown_byte-then-rest-ne0.result c.if-w-gt-WIDEST.false (omega arith)
    c.if-rest-ne0.true c.shown_byte-then-rest-ne0.ensures

pub returns-else-rest-ne0 : goal.returns-else-rest-ne0
returns-else-rest-ne0 c =
    let l = c.loop-j in
    let x = c.args in
    let e : l.j ≡ x.w / 8 = omega arith in
    l.invariant ∙ ap (λ (k : ℕ). over x.out.now (header_bytes k (whole x.piece))) e
    ∙ show-even x.piece (omega arith) x.out.now x.w c.if-w-gt-WIDEST.false (omega arith) c.if-rest-ne0.false
