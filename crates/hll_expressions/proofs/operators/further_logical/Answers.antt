use Rattle.std.proofs.Common.{refl}
use Rattle.std.proofs.lemmas.Result.{err_from_is_err_and}
use Rattle.hll_expressions.proofs.FurtherLemmas.{left_no_truth, right_no_truth, logical_further}
use Rattle.hll_expressions.proofs.operators.further_logical.Goals as goal

pub returns-in_err-truth : goal.returns-in_err-truth
returns-in_err-truth c =
    let p = err_from_is_err_and c.from_residual.result c.from_residual.ensures.1 in
    rw (p.1, p.2) (λ needs d l r same dl dr. left_no_truth d c.args.op c.args.at _ c.args.left.now l r c.in_err-truth.field-0.0 c.requires dl c.in_err-truth.ensures)

pub returns-in_err-truth-2 : goal.returns-in_err-truth-2
returns-in_err-truth-2 c =
    let p = err_from_is_err_and c.from_residual-in_err-truth-2.result c.from_residual-in_err-truth-2.ensures.1 in
    rw (p.1, p.2) (λ needs d l r same dl dr. right_no_truth d c.args.op c.args.at needs c.args.left.now c.args.right.now l r c.in_err-truth-2.field-0.0 c.requires c.in_ok-truth.ensures dl dr c.in_err-truth-2.ensures)

pub returns : goal.returns
returns c = λ needs d l r same dl dr. logical_further d c.args.op c.args.at needs c.args.left.now c.args.right.now _ l r c.requires c.in_ok-truth.ensures c.in_ok-truth-2.ensures refl dl dr
