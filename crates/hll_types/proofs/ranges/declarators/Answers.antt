use Rattle.std.proofs.Common.{sym, ap, subst}
use Rattle.std.specs.List.{AllByRecursion}
use Rattle.hll_meaning.specs.Nodes.{all_nodes, ranges_of}
use Rattle.hll_meaning.specs.NodeLaws.{IsFaultless}
use Rattle.hll_expressions.specs.Scopes.{context}
use Rattle.hll_expressions.proofs.RangeLemmas.{nothing_noted, noted_as}
use Rattle.hll_types.proofs.RangeWalk.{node_fails, walk_all, walk_more}
use Rattle.hll_types.proofs.ranges.declarators.Goals as goal

pub loop-declarator-init : goal.loop-declarator-init
loop-declarator-init c = nothing_noted c.args.ranges.now

pub loop-declarator-preserved : goal.loop-declarator-preserved
loop-declarator-preserved c = walk_more (λ d. all_nodes d.dims (context c.args.scope.now)) c.args.names.now c.loop-declarator.declarator-index c.declarator-item.result c.loop-declarator-test.true c.declarator-item.is c.loop-declarator.invariant (noted_as (ap (λ ds. ranges_of (all_nodes ds (context c.args.scope.now))) c.as_slice.ensures) c.in_ok-expressions.ensures)

pub returns-in_err-expressions : goal.returns-in_err-expressions
returns-in_err-expressions c =
    let f = c.in_err-expressions.field-0.0 in
    node_fails (λ d. all_nodes d.dims (context c.args.scope.now)) c.args.names.now c.loop-declarator.declarator-index c.args.ranges.now c.expressions.new.ranges c.from_residual.result c.declarator-item.result f c.from_residual.ensures.1 c.loop-declarator-test.true c.declarator-item.is (λ fine. c.in_err-expressions.ensures (subst (λ ds. AllByRecursion IsFaultless (all_nodes ds (context c.args.scope.now))) (sym c.as_slice.ensures) fine))

pub returns : goal.returns
returns c = walk_all (λ d. all_nodes d.dims (context c.args.scope.now)) c.args.names.now c.loop-declarator.declarator-index c.loop-declarator-test.false c.loop-declarator.invariant
