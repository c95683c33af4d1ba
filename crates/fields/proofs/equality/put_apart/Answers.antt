-- `fields::equality::put_apart` meets its contract: the two codes are set in a free cube.
use mathlib.Core.Path.{◌∙◌}
use lib.ListN.{length}
use Rattle.format.proofs.Coding.{codes-free}
use Rattle.fields.proofs.equality.put_apart.Goals as goal

pub returns : goal.returns
returns c =
    let x = c.args in
    c.set_code-2.ensures ∙ rw (c.set_code.ensures, c.fill.ensures, codes-free (length x.c.now))
