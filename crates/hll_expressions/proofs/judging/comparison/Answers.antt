use Rattle.std.proofs.Common.{rules, ◌≡◌, ◌∙◌, Err}
use Rattle.hll_expressions.proofs.FormLemmas.{compared_fails, compared_answer}
use Rattle.hll_expressions.proofs.judging.comparison.Goals as goal

pub returns-in_err-comparable : goal.returns-in_err-comparable
returns-in_err-comparable c =
    let f = c.in_err-comparable.field-0.0 in
    let is : c.from_residual.result ≡ Err f = search rules in
    rw is (compared_fails c.args.at c.args.cmp c.args.left.now c.args.right.now f c.in_err-comparable.ensures)

pub returns : goal.returns
returns c =
    compared_answer c.args.at c.args.cmp c.args.left.now c.args.right.now c.comparing-number.result c.truth_value.result c.in_ok-comparable.ensures
    (λ x y p q. c.comparing-number.ensures x y (c.number.ensures ∙ p) (c.number-2.ensures ∙ q)) c.truth_value.ensures
