-- `region::front::front_at` meets its contract.
use native.Mathlib.Omega.{arith}
use mathlib.Core.Path.{◌∙◌}
use Rattle.std.proofs.lemmas.List.{drop_min}
use Rattle.region.proofs.Fronts.{front-here, tail}
use Rattle.region.proofs.front.front_at.Goals as goal

pub returns : goal.returns
returns c =
    let x = c.args in
    let part = tail x.s.now c.min-start.result in
    let from = drop_min x.at x.s.now in (
      front-here _ _ _ (rw (part, c.min-start.ensures, from) at c.u16_at-length.ensures) (rw (part, c.min-start.ensures, from) at c.u16_at.ensures)
          (c.from.ensures ∙ rw (part, c.min-start.ensures, from) at c.byte_at.ensures)
          (omega (arith, c.min-start.ensures, c.min.ensures)) (omega (arith, c.min-start.ensures, c.min-2.ensures)),
      omega arith,
    )
