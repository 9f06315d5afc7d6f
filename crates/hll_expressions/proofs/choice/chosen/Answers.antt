use Rattle.hll_expressions.proofs.TestedBranches.{passed_over, chosen_is, none_chosen}
use Rattle.hll_expressions.proofs.choice.chosen.Goals as goal

pub returns-then-not-is_zero : goal.returns-then-not-is_zero
returns-then-not-is_zero c = λ bs j h.
    chosen_is c.args.tested.now c.as_slice-conditions.result.now c.as_slice-branches.result.now bs j c.loop-place.place c.index-conditions-place.result c.index-branches-place.result c.is_zero.result c.number.result
    (record { conditions = c.as_slice-conditions.ensures; branches = c.as_slice-branches.ensures; within = c.loop-place-test.true; condition = c.index-conditions-place.is; gives = c.index-branches-place.is }) h c.is_zero.ensures c.if-not-is_zero.true (c.loop-place.invariant bs j h) c.number.ensures

pub loop-place-preserved : goal.loop-place-preserved
loop-place-preserved c = λ bs j h.
    passed_over c.args.tested.now c.as_slice-conditions.result.now c.as_slice-branches.result.now bs j c.loop-place.place c.index-conditions-place.result c.index-branches-place.result c.is_zero.result
    (record { conditions = c.as_slice-conditions.ensures; branches = c.as_slice-branches.ensures; within = c.loop-place-test.true; condition = c.index-conditions-place.is; gives = c.index-branches-place.is }) h c.is_zero.ensures c.if-not-is_zero.false (c.loop-place.invariant bs j h)

pub returns : goal.returns
returns c = λ bs j h. none_chosen c.args.tested.now c.as_slice-conditions.result.now bs j c.loop-place.place c.number-2.result c.as_slice-conditions.ensures c.loop-place-test.false h (c.loop-place.invariant bs j h) c.number-2.ensures
