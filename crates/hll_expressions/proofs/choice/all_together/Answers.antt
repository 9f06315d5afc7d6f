use Rattle.std.proofs.lemmas.Result.{err_from_is_err_and}
use Rattle.hll_expressions.proofs.BranchLemmas.{nothing_tested}
use Rattle.hll_expressions.proofs.TestedBranches.{condition_refused, branch_refused, branch_goes_on, all_tested}
use Rattle.hll_expressions.proofs.choice.all_together.Goals as goal

pub loop-place-init : goal.loop-place-init
loop-place-init c = λ needs bs j h. nothing_tested bs

pub returns-in_err-truth : goal.returns-in_err-truth
returns-in_err-truth c =
    let p = err_from_is_err_and c.from_residual.result c.from_residual.ensures.1 in
    rw (p.1, p.2) (λ needs bs j h.
    condition_refused needs c.args.tested.now c.as_slice-conditions.result.now c.as_slice-branches.result.now bs j c.loop-place.place c.index-conditions-place.result c.index-branches-place.result c.loop-place.all c.in_err-truth.field-0.0
    (record { conditions = c.as_slice-conditions.ensures; branches = c.as_slice-branches.ensures; within = c.loop-place-test.true; condition = c.index-conditions-place.is; gives = c.index-branches-place.is }) h (c.loop-place.invariant needs bs j h) c.in_err-truth.ensures)

pub returns-in_err-with_branch : goal.returns-in_err-with_branch
returns-in_err-with_branch c =
    let p = err_from_is_err_and c.from_residual-in_err-with_branch.result c.from_residual-in_err-with_branch.ensures.1 in
    rw (p.1, p.2) (λ needs bs j h.
    branch_refused needs c.args.tested.now c.as_slice-conditions.result.now c.as_slice-branches.result.now bs j c.loop-place.place c.index-conditions-place.result c.index-branches-place.result c.loop-place.all c.in_err-with_branch.field-0.0
    (record { conditions = c.as_slice-conditions.ensures; branches = c.as_slice-branches.ensures; within = c.loop-place-test.true; condition = c.index-conditions-place.is; gives = c.index-branches-place.is }) h (c.loop-place.invariant needs bs j h) c.in_ok-truth.ensures c.in_err-with_branch.ensures)

pub loop-place-preserved : goal.loop-place-preserved
loop-place-preserved c = λ needs bs j h.
    branch_goes_on needs c.args.tested.now c.as_slice-conditions.result.now c.as_slice-branches.result.now bs j c.loop-place.place c.index-conditions-place.result c.index-branches-place.result c.loop-place.all c.in_ok-with_branch.field-0
    (record { conditions = c.as_slice-conditions.ensures; branches = c.as_slice-branches.ensures; within = c.loop-place-test.true; condition = c.index-conditions-place.is; gives = c.index-branches-place.is }) h (c.loop-place.invariant needs bs j h) c.in_ok-truth.ensures c.in_ok-with_branch.ensures

pub returns : goal.returns
returns c = λ needs bs j h.
    all_tested needs c.args.tested.now c.as_slice-conditions.result.now bs j c.loop-place.place c.loop-place.all c.with_branch-2.result c.as_slice-conditions.ensures c.loop-place-test.false h (c.loop-place.invariant needs bs j h) c.with_branch-2.ensures
