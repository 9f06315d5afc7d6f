use Rattle.std.proofs.Common.{rules, ◌≡◌, Err}
use Rattle.hll_expressions.proofs.FormLemmas.{alike_refused, alike_so}
use Rattle.hll_expressions.proofs.judging.alike.Goals as goal

pub returns-in_err-kind_wanted : goal.returns-in_err-kind_wanted
returns-in_err-kind_wanted c =
    let f = c.in_err-kind_wanted.field-0.0 in
    let is : c.from_residual-in_err-kind_wanted.result ≡ Err f = search rules in
    rw is (alike_refused c.args.left.now c.args.right.now c.in_ok-kind.kind.now f c.in_ok-kind.ensures.0 c.in_ok-kind.ensures.1 c.in_err-kind_wanted.ensures)

pub returns : goal.returns
returns c = alike_so c.args.left.now c.args.right.now c.in_ok-kind.kind.now c.in_ok-kind_wanted.field-0 c.in_ok-kind.ensures.0 c.in_ok-kind.ensures.1 c.in_ok-kind_wanted.ensures
