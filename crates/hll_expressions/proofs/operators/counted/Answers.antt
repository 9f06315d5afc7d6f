use Rattle.std.proofs.Common.{refl, sym, subst, ◌∙◌}
use Rattle.hll_expressions.specs.declared.operators.Tally.{Tally}
use Rattle.hll_expressions.specs.declared.operators.Tally.TheVariants as tally
use Rattle.hll_expressions.specs.Chains.{IsTally}
use Rattle.hll_expressions.proofs.TallyLemmas.{left_first, left_further, right_first_as, right_further_as, near_first, near_left, zero_as, counts_as}
use Rattle.hll_expressions.proofs.operators.counted.Goals as goal

pub returns-then-is_implication : goal.returns-then-is_implication
returns-then-is_implication c = λ v ws w h g.
    let k : IsTally (tally.First c.in-First.left) v ws = subst (λ (t : Tally). IsTally t v ws) c.in-First.is h in (
      _,
      refl,
      right_first_as c.args.op c.in-First.left c.args.right c.is_zero-of_false.result c.is_zero-zero.result v ws w
          (zero_as c.in-First.left c.is_zero-of_false.result (near_first c.in-First.left c.args.op c.args.right v ws w k g) c.is_zero-of_false.ensures) (zero_as c.args.right c.is_zero-zero.result g.near c.is_zero-zero.ensures)
          (sym c.is_implication.ensures ∙ c.if-is_implication.true) k g,
    )

pub returns-else-is_implication : goal.returns-else-is_implication
returns-else-is_implication c = λ v ws w h g.
    let k : IsTally (tally.First c.in-First.left) v ws = subst (λ (t : Tally). IsTally t v ws) c.in-First.is h in
    left_first c.args.op c.in-First.left c.args.right v ws w c.from_left.result (sym c.is_implication.ensures ∙ c.if-is_implication.false) k g
    (counts_as c.args.op c.in-First.left c.args.right c.from_left.result (near_first c.in-First.left c.args.op c.args.right v ws w k g) g.near c.from_left.ensures)

pub returns-in-Left : goal.returns-in-Left
returns-in-Left c = λ v ws w h g.
    let k : IsTally (tally.Left c.in-Left.left) v ws = subst (λ (t : Tally). IsTally t v ws) c.in-Left.is h in
    left_further c.args.op c.in-Left.left c.args.right v ws w c.from_left-in-Left.result k g
    (counts_as c.args.op c.in-Left.left c.args.right c.from_left-in-Left.result (near_left c.in-Left.left c.args.op c.args.right v ws w k g) g.near c.from_left-in-Left.ensures)

pub returns-in-Right : goal.returns-in-Right
returns-in-Right c = λ v ws w h g. (
  _,
  refl,
  right_further_as c.args.op c.args.right c.in-Right.of_false c.in-Right.of_true c.in-Right.last c.logical-at_false.result c.logical-at_true.result c.either-on_false.result c.either-on_true.result c.is_zero-none.result v ws w
      c.logical-at_false.ensures c.logical-at_true.ensures c.either-on_false.ensures c.either-on_true.ensures (zero_as c.args.right c.is_zero-none.result g.near c.is_zero-none.ensures) (subst (λ (t : Tally). IsTally t v ws) c.in-Right.is h) g,
)
