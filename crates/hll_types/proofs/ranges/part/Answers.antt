use Rattle.std.proofs.Common.{◌++◌}
use Rattle.hll_meaning.specs.Nodes.{nodes}
use Rattle.hll_expressions.specs.Scopes.{context}
use Rattle.hll_types.proofs.RangeWalk.{alone_walked, fails_first, nodes_both, walked_as, walked_behind}
use Rattle.hll_types.proofs.ranges.part.Goals as goal

pub returns-in-Value : goal.returns-in-Value
returns-in-Value c = alone_walked _ _ (context c.args.scope.now) c.in-Value.expr c.args.part.now c.expression-in-Value.result c.in-Value.is c.expression-in-Value.ensures

pub returns-in_err-expression-in-Both : goal.returns-in_err-expression-in-Both
returns-in_err-expression-in-Both c =
    let k = context c.args.scope.now in
    let a = nodes c.in-Both.first k in
    let b = nodes c.in-Both.next k in
    let r = c.from_residual.result in
    walked_as _ _ (a ++ b) _ r (nodes_both k c.in-Both.first c.in-Both.next c.args.part.now c.in-Both.is) (fails_first c.args.ranges.now c.expression.new.ranges a b r c.in_err-expression-in-Both.field-0.0 c.from_residual.ensures.1 c.in_err-expression-in-Both.ensures)

pub returns-in_ok-expression-in-Both : goal.returns-in_ok-expression-in-Both
returns-in_ok-expression-in-Both c =
    let k = context c.args.scope.now in
    let a = nodes c.in-Both.first k in
    let b = nodes c.in-Both.next k in
    let r = c.expression-in-Both.result in
    walked_as _ _ (a ++ b) _ r (nodes_both k c.in-Both.first c.in-Both.next c.args.part.now c.in-Both.is) (walked_behind _ a b r c.in_ok-expression-in-Both.ensures c.expression-in-Both.ensures)
