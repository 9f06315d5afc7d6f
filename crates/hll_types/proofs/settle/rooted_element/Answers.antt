use Rattle.std.proofs.Common.{◌^◌, ◌<◌, ◌∙◌, arith, rules}
use Rattle.std.proofs.lemmas.Int.{ints}
use Rattle.intervals.proofs.AnswerLemmas.{bounded}
use Rattle.hll_types.specs.Settling.{root_in}
use Rattle.hll_types.proofs.RootedThings.{end_moved, element_moved}
use Rattle.hll_types.proofs.settle.rooted_element.Goals as goal

pub returns-in-Some : goal.returns-in-Some
returns-in-Some c =
    let codes = c.args.codes.now in
    let before = c.in_ok-root.before in
    let ends = bounded codes in
    let few : before < 2 ^ 64 = search rules in
    let lo = end_moved codes.lo before ends.least (omega (arith, ints)) few in
    let hi = end_moved codes.hi before (omega (arith, ints)) ends.greatest few in
    element_moved c.in_ok-root.root before (root_in c.args.sorts.now c.args.roots.now c.args.sort.now) codes c.in-Some.codes c.in_ok-root.ensures (c.in-Some.ensures.0 ∙ (λ i. record { lo = lo i; hi = hi i }))
