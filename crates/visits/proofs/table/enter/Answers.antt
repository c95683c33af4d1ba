-- `visits::table::enter` meets its contract.
use Rattle.visits.proofs.Entering.{fresh, free-words, enter-fits, enter-turn, enter-end, agree-turn}
use Rattle.visits.proofs.Places.{words-passed}
use Rattle.visits.proofs.Narrowing.{open-inside, opened, took-cube, later_first}
use Rattle.visits.specs.Places.{words-length}
use Rattle.visits.specs.Words.{cube_of_words}
use lib.ListN.{length-set}
use mathlib.Core.Logic.{inl}
use mathlib.Core.Path.{refl, ◌∙◌}
use borrow.Author.Rules.{rules}
use native.Mathlib.Omega.{arith}
use Prim.Native.Nat.{◌+◌, ◌-◌, ◌*◌, ◌/◌}
use Rattle.visits.proofs.table.enter.Goals as goal

pub loop-next-init : goal.loop-next-init
loop-next-init c = (refl, c.next_open-next.ensures, fresh c.args.against.now c.args.one, λ j h. inl (free-words j h))

pub overflow_sub-against : goal.overflow_sub-against
overflow_sub-against c = (opened _ _ _ _ _ c.loop-next.invariant.1 c.in-Some.is c.number_in-y.ensures.0).most

pub bounds-against-i : goal.bounds-against-i
bounds-against-i c =
    let o = opened _ _ _ _ _ c.loop-next.invariant.1 c.in-Some.is c.number_in-y.ensures.0 in
    omega (arith, o.inside, o.least, o.most)

pub overflow_add-against-in-Some : goal.overflow_add-against-in-Some
overflow_add-against-in-Some c =
    let g = c.args in
    let o = opened _ _ _ _ _ c.loop-next.invariant.1 c.in-Some.is c.number_in-y.ensures.0 in
    let k = 2 * c.in-Some.i + (2 - c.number_in-y.result) in
    omega (
      arith,
      enter-fits g.against.now (cube_of_words c.loop-next.near) g.one c.loop-next.against c.loop-next.invariant.2 c.in-Some.i
          c.number_in-y.result o.inside o.least o.most o.unfixed,
      c.requires k (omega (arith, o.inside, o.least, o.most)),
    )

pub bounds-against-i-in-Some : goal.bounds-against-i-in-Some
bounds-against-i-in-Some c =
    let o = opened _ _ _ _ _ c.loop-next.invariant.1 c.in-Some.is c.number_in-y.ensures.0 in
    omega (arith, o.inside, o.least, o.most)

pub given-requires : goal.given-requires
given-requires c =
    let o = opened _ _ _ _ _ c.loop-next.invariant.1 c.in-Some.is c.number_in-y.ensures.0 in
    (omega arith, omega arith, o.place)

pub loop-next-smaller : goal.loop-next-smaller
loop-next-smaller c =
    let o = opened _ _ _ _ _ c.loop-next.invariant.1 c.in-Some.is c.number_in-y.ensures.0 in
    let p = later_first _ _ _ _ _ o (took-cube c.loop-next.near c.in-Some.i _ c.given.result c.loop-next.invariant.0 o.inside c.given.ensures) in
    omega (arith, o.first, o.inside, p)

pub loop-next-preserved : goal.loop-next-preserved
loop-next-preserved c =
    let g = c.args in
    let v = c.loop-next.invariant in
    let o = opened _ _ _ _ _ c.loop-next.invariant.1 c.in-Some.is c.number_in-y.ensures.0 in
    let t = took-cube c.loop-next.near c.in-Some.i _ c.given.result c.loop-next.invariant.0 o.inside c.given.ensures in (
      length-set c.loop-next.near (c.in-Some.i / 32) c.given.result ∙ v.0,
      c.next_open-next-in-Some.ensures,
      enter-turn g.against.now (cube_of_words c.loop-next.near) g.one c.loop-next.against v.2 c.in-Some.i c.number_in-y.result o.inside o.least
          o.most o.unfixed (words-length c.loop-next.near) _ (search rules) t,
      agree-turn (cube_of_words c.loop-next.near) (cube_of_words g.cut.now) c.in-Some.i _ _ (omega (arith, words-length c.loop-next.near, o.inside))
          t o.fixed v.3,
    )

pub returns : goal.returns
returns c =
    let v = c.loop-next.invariant in
    enter-end c.args.against.now c.loop-next.near c.args.cut.now c.args.one c.loop-next.against
    (omega (arith, words-length c.loop-next.near, c.loop-next.invariant.1.none_left (search rules))) v.3 v.2

pub number_in-y-requires : goal.number_in-y-requires
number_in-y-requires c = open-inside _ _ _ _ c.loop-next.invariant.1 c.in-Some.is

pub overflow_mul-against : goal.overflow_mul-against
overflow_mul-against c = omega (arith, open-inside _ _ _ _ c.loop-next.invariant.1 c.in-Some.is)

pub overflow_add-against : goal.overflow_add-against
overflow_add-against c = omega (arith, open-inside _ _ _ _ c.loop-next.invariant.1 c.in-Some.is)

pub offset_bounds-against-i : goal.offset_bounds-against-i
offset_bounds-against-i c = omega (arith, open-inside _ _ _ _ c.loop-next.invariant.1 c.in-Some.is)

pub bounds-near-w : goal.bounds-near-w
bounds-near-w c = omega (arith, open-inside _ _ _ _ c.loop-next.invariant.1 c.in-Some.is)

pub bounds-near-w-in-Some : goal.bounds-near-w-in-Some
bounds-near-w-in-Some c = omega (arith, open-inside _ _ _ _ c.loop-next.invariant.1 c.in-Some.is)

pub next_open-next-requires-in-Some : goal.next_open-next-requires-in-Some
next_open-next-requires-in-Some c =
    let o = opened _ _ _ _ _ c.loop-next.invariant.1 c.in-Some.is c.number_in-y.ensures.0 in
    let p = later_first _ _ _ _ _ o (took-cube c.loop-next.near c.in-Some.i _ c.given.result c.loop-next.invariant.0 o.inside c.given.ensures) in
    words-passed _ _ _ (length-set c.loop-next.near (c.in-Some.i / 32) c.given.result ∙ c.loop-next.invariant.0) (search rules) (omega (arith, p))

pub next_open-next-requires : goal.next_open-next-requires
next_open-next-requires c = words-passed _ _ _ (search rules) (search rules) (omega arith)
