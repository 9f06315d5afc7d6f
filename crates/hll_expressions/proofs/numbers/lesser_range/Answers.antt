use Rattle.std.proofs.Common.{rules, ◌≡◌, ◌∙◌, FitsSigned, to_z, of_z, to_z-of_z}
use Rattle.std.specs.Int.{int_min, w128}
use Rattle.intervals.proofs.AnswerLemmas.{back_lo, back_hi}
use Rattle.hll_expressions.proofs.Extremes.{smaller_fits, smaller_ends}
use Rattle.hll_expressions.proofs.numbers.lesser_range.Goals as goal

pub invariant_of-result : goal.invariant_of-result
invariant_of-result c =
    let a = c.args.left.now in
    let b = c.args.right.now in
    let f : FitsSigned w128 c.min.result = search rules in
    let g : FitsSigned w128 c.min-2.result = search rules in
    let lo : to_z w128 (of_z w128 c.min.result) ≡ int_min a.lo b.lo = to_z-of_z f ∙ rw (back_lo a, back_lo b) at c.min.ensures.value in
    let hi : to_z w128 (of_z w128 c.min-2.result) ≡ int_min a.hi b.hi = to_z-of_z g ∙ rw (back_hi a, back_hi b) at c.min-2.ensures.value in
    let h = smaller_fits a b (to_z w128 (of_z w128 c.min.result)) (to_z w128 (of_z w128 c.min-2.result)) lo hi in
    record { ordered = h.ordered; narrow = h.narrow }

pub returns : goal.returns
returns c =
    let a = c.args.left.now in
    let b = c.args.right.now in
    let f : FitsSigned w128 c.min.result = search rules in
    let g : FitsSigned w128 c.min-2.result = search rules in
    let lo : to_z w128 (of_z w128 c.min.result) ≡ int_min a.lo b.lo = to_z-of_z f ∙ rw (back_lo a, back_lo b) at c.min.ensures.value in
    let hi : to_z w128 (of_z w128 c.min-2.result) ≡ int_min a.hi b.hi = to_z-of_z g ∙ rw (back_hi a, back_hi b) at c.min-2.ensures.value in
    smaller_ends a b (to_z w128 (of_z w128 c.min.result)) (to_z w128 (of_z w128 c.min-2.result)) lo hi
