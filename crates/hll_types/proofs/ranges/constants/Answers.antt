use Rattle.hll_meaning.specs.Nodes.{nodes}
use Rattle.hll_expressions.specs.Scopes.{context}
use Rattle.hll_expressions.proofs.RangeLemmas.{nothing_noted}
use Rattle.hll_types.proofs.RangeWalk.{node_fails, walk_all, walk_more}
use Rattle.hll_types.proofs.ranges.constants.Goals as goal

pub loop-item-init : goal.loop-item-init
loop-item-init c = nothing_noted c.args.ranges.now

pub loop-item-preserved : goal.loop-item-preserved
loop-item-preserved c = walk_more (λ k. nodes k.value (context c.args.scope.now)) c.args.items.now c.loop-item.item-index c.item-item.result c.loop-item-test.true c.item-item.is c.loop-item.invariant c.in_ok-expression.ensures

pub returns-in_err-expression : goal.returns-in_err-expression
returns-in_err-expression c =
    let f = c.in_err-expression.field-0.0 in
    node_fails (λ k. nodes k.value (context c.args.scope.now)) c.args.items.now c.loop-item.item-index c.args.ranges.now c.expression.new.ranges c.from_residual.result c.item-item.result f c.from_residual.ensures.1 c.loop-item-test.true c.item-item.is c.in_err-expression.ensures

pub returns : goal.returns
returns c = walk_all (λ k. nodes k.value (context c.args.scope.now)) c.args.items.now c.loop-item.item-index c.loop-item-test.false c.loop-item.invariant
