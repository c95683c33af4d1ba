-- `desk::words::bytes_of_hex` meets its contract. A byte goes to the place i, and the digits that are read later stand behind it.
use Rattle.std.proofs.Common.{◌+◌, ◌*◌, ◌<◌, length, get_or, ap, ◌∙◌, arith, below_more}
use Rattle.std.proofs.lemmas.List.{get_or-set_same, get_or-set_other}
use Rattle.std.specs.Char.{digit_value}
use Rattle.desk.proofs.words.bytes_of_hex.Goals as goal

pub loop-i-preserved : goal.loop-i-preserved
loop-i-preserved c =
    let word = c.loop-i.word in
    let old = c.args.word.now in
    let i = c.loop-i.i in
    let rest = c.loop-i.invariant.rest in
    let fits : i < length word = omega arith in
    let high = ap (λ d. 16 * digit_value d + digit_value (get_or word (2 * i + 1) 0)) (rest (2 * i) (omega arith)) in
    let low = ap (λ d. 16 * digit_value (get_or old (2 * i) 0) + digit_value d) (rest (2 * i + 1) (omega arith)) in
    record {
      bytes =
          below_more _ _ (λ k h. get_or-set_other word i k _ 0 (λ e. omega arith) ∙ c.loop-i.invariant.bytes k h)
          (get_or-set_same word i _ 0 fits ∙ c.in_ok-word.ensures ∙ high ∙ low);
      rest = λ k h. get_or-set_other word i k _ 0 (λ e. omega arith) ∙ rest k (omega arith);
    }
