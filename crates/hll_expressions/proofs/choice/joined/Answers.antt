use Rattle.std.proofs.Common.{refl}
use Rattle.std.proofs.lemmas.Result.{err_from_is_err_and}
use Rattle.hll_expressions.proofs.TogetherLemmas.{branch_apart, branch_joins}
use Rattle.hll_expressions.proofs.choice.joined.Goals as goal

pub returns-in_err-refuse_if : goal.returns-in_err-refuse_if
returns-in_err-refuse_if c =
    let p = err_from_is_err_and c.from_residual-in_err-refuse_if.result c.from_residual-in_err-refuse_if.ensures.1 in
    rw (p.1, p.2) (λ needs j d. branch_apart c.args.before c.args.branch.now needs j c.in_ok-joined.joined c.in_ok-given.given c.at.result c.in_err-refuse_if.field-0.0 c.in_ok-joined.ensures c.in_ok-given.ensures c.at.ensures d c.in_err-refuse_if.ensures.1)

pub returns : goal.returns
returns c = λ needs j d. branch_joins c.args.before _ c.args.branch.now needs j c.in_ok-joined.joined c.in_ok-given.given c.in_ok-joined.ensures c.in_ok-given.ensures d c.in_ok-refuse_if.ensures refl c.or-wide.ensures c.or-uneven.ensures
