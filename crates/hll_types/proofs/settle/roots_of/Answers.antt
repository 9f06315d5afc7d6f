use Rattle.hll_types.proofs.Roots.{rooted_more}
use Rattle.hll_types.proofs.settle.roots_of.Goals as goal

pub loop-number-preserved : goal.loop-number-preserved
loop-number-preserved c =
    rooted_more c.args.sorts.now c.loop-number.number c.loop-number.backward.items _ c.as_slice.result.now c.in-Some.field-0-0.now c.in-Some.sort c.in_ok-place.place
    c.loop-number-test.true c.in-Some.ensures c.as_slice.ensures.value c.in_ok-place.ensures c.in_ok-push.ensures.pushed c.loop-number.invariant
