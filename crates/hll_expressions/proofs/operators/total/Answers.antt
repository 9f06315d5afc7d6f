use Rattle.std.proofs.Common.{Some, ap, subst}
use Rattle.hll_expressions.specs.declared.operators.Tally.{Tally}
use Rattle.hll_expressions.specs.declared.operators.Tally.TheVariants as tally
use Rattle.hll_expressions.specs.Chains.{IsTally}
use Rattle.hll_expressions.proofs.TallyLemmas.{total_right_as}
use Rattle.hll_expressions.proofs.operators.total.Goals as goal

pub returns-in-Right : goal.returns-in-Right
returns-in-Right c = λ v ws h.
    let k : IsTally (tally.Right c.in-Right.of_false c.in-Right.of_true c.in-Right.last) v ws = subst (λ (t : Tally). IsTally t v ws) c.in-Right.is h in
    ap Some (total_right_as c.in-Right.of_false c.in-Right.of_true c.in-Right.last c.either-end.result c.of_truth-number.result v ws c.either-end.ensures c.of_truth-number.ensures k)
