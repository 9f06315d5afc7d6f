use Rattle.std.proofs.Common.{rules, ◌≡◌, Err}
use Rattle.hll_expressions.proofs.Groups.{group_fails, group_answer}
use Rattle.hll_expressions.proofs.judging.group.Goals as goal

pub returns-in_err-refuse_if : goal.returns-in_err-refuse_if
returns-in_err-refuse_if c =
    let f = c.in_err-refuse_if.field-0.0 in
    let is : c.from_residual.result ≡ Err f = search rules in
    rw is (group_fails c.args.at c.args.needs_constant c.args.parts f c.in_err-refuse_if.ensures.1)

pub returns : goal.returns
returns c = group_answer c.args.at c.args.needs_constant c.args.parts c.in_ok-refuse_if.ensures
