-- `visits::load::unload` meets its contract.
use borrow.Rule.Slice.PartMut.{same_len_mid}
use Rattle.visits.proofs.Carrying.{unloaded, word-out}
use mathlib.Core.Path.{◌∙◌}
use native.Mathlib.Omega.{arith}
use Rattle.visits.proofs.load.unload.Goals as goal

pub loop-w-preserved : goal.loop-w-preserved
loop-w-preserved c =
    let v = c.loop-w.invariant in (
      same_len_mid _ _ c.loop-w.bytes c.copy_from_slice.new.self c.copy_from_slice.ensures.len ∙ v.0,
      word-out c.args.ws.now c.loop-w.bytes
          c.copy_from_slice.new.self _ c.loop-w.w c.loop-w-test.true v.0 (c.copy_from_slice.ensures.after ∙ c.to_be_bytes.ensures) v.1,
    )

pub returns : goal.returns
returns c = unloaded c.args.ws.now c.loop-w.bytes c.loop-w.invariant.0 (λ b h. c.loop-w.invariant.1 b (omega (arith, c.loop-w-test)))
