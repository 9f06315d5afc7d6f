use Rattle.std.proofs.Common.{rules, ◌≡◌, ◌∙◌, FitsSigned, to_z, of_z, to_z-of_z}
use Rattle.std.specs.Int.{int_max, w128}
use Rattle.intervals.proofs.AnswerLemmas.{back_lo, back_hi}
use Rattle.hll_expressions.proofs.Extremes.{greater_fits, greater_ends}
use Rattle.hll_expressions.proofs.numbers.greater_range.Goals as goal

pub invariant_of-result : goal.invariant_of-result
invariant_of-result c =
    let a = c.args.left.now in
    let b = c.args.right.now in
    let f : FitsSigned w128 c.max.result = search rules in
    let g : FitsSigned w128 c.max-2.result = search rules in
    let lo : to_z w128 (of_z w128 c.max.result) ≡ int_max a.lo b.lo = to_z-of_z f ∙ rw (back_lo a, back_lo b) at c.max.ensures.value in
    let hi : to_z w128 (of_z w128 c.max-2.result) ≡ int_max a.hi b.hi = to_z-of_z g ∙ rw (back_hi a, back_hi b) at c.max-2.ensures.value in
    let h = greater_fits a b (to_z w128 (of_z w128 c.max.result)) (to_z w128 (of_z w128 c.max-2.result)) lo hi in
    record { ordered = h.ordered; narrow = h.narrow }

pub returns : goal.returns
returns c =
    let a = c.args.left.now in
    let b = c.args.right.now in
    let f : FitsSigned w128 c.max.result = search rules in
    let g : FitsSigned w128 c.max-2.result = search rules in
    let lo : to_z w128 (of_z w128 c.max.result) ≡ int_max a.lo b.lo = to_z-of_z f ∙ rw (back_lo a, back_lo b) at c.max.ensures.value in
    let hi : to_z w128 (of_z w128 c.max-2.result) ≡ int_max a.hi b.hi = to_z-of_z g ∙ rw (back_hi a, back_hi b) at c.max-2.ensures.value in
    greater_ends a b (to_z w128 (of_z w128 c.max.result)) (to_z w128 (of_z w128 c.max-2.result)) lo hi
