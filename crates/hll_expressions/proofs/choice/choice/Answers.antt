use Rattle.std.proofs.Common.{sym, ◌∙◌}
use Rattle.std.proofs.lemmas.Result.{err_from_is_err_and}
use Rattle.hll_expressions.proofs.ChoiceLemmas.{branches_fail, choice_wide, choice_uneven, whole_answer, lists_answer}
use Rattle.hll_expressions.proofs.choice.choice.Goals as goal

pub returns-in_err-all : goal.returns-in_err-all
returns-in_err-all c =
    let p = err_from_is_err_and c.from_residual.result c.from_residual.ensures.1 in
    rw (p.1, p.2) (λ needs bs j h. branches_fail needs c.args.tested c.args.at bs j c.in_err-all.field-0.0 h (c.in_err-all.ensures needs bs j h))

pub returns-in_err-refuse_if : goal.returns-in_err-refuse_if
returns-in_err-refuse_if c =
    let p = err_from_is_err_and c.from_residual-in_err-refuse_if.result c.from_residual-in_err-refuse_if.ensures.1 in
    rw (p.1, p.2) (λ needs bs j h. choice_wide needs c.args.tested c.args.at bs j c.in_ok-all.all c.in_err-refuse_if.field-0.0 h (c.in_ok-all.ensures needs bs j h) c.in_err-refuse_if.ensures.1)

pub returns-in_err-refuse_if-2 : goal.returns-in_err-refuse_if-2
returns-in_err-refuse_if-2 c =
    let p = err_from_is_err_and c.from_residual-in_err-refuse_if-2.result c.from_residual-in_err-refuse_if-2.ensures.1 in
    rw (p.1, p.2) (λ needs bs j h. choice_uneven needs c.args.tested c.args.at bs j c.in_ok-all.all c.in_err-refuse_if-2.field-0.0 h (c.in_ok-all.ensures needs bs j h) c.in_ok-refuse_if.ensures c.in_err-refuse_if-2.ensures.1)

pub returns-then-is_scalar : goal.returns-then-is_scalar
returns-then-is_scalar c = λ needs bs j h.
    whole_answer needs c.args.tested c.args.at bs j c.in_ok-all.all c.chosen-number.result h (c.in_ok-all.ensures needs bs j h) c.in_ok-refuse_if.ensures c.in_ok-refuse_if-2.ensures (sym c.is_scalar.ensures ∙ c.if-is_scalar.true) c.chosen-number.ensures

pub returns-else-is_scalar : goal.returns-else-is_scalar
returns-else-is_scalar c = λ needs bs j h.
    lists_answer needs c.args.tested c.args.at bs j c.in_ok-all.all c.choice_of_lists.result h (c.in_ok-all.ensures needs bs j h) c.in_ok-refuse_if.ensures c.in_ok-refuse_if-2.ensures (sym c.is_scalar.ensures ∙ c.if-is_scalar.false) c.choice_of_lists.ensures
