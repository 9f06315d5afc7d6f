use Rattle.hll_meaning.specs.Nodes.{nodes}
use Rattle.hll_expressions.specs.Scopes.{context}
use Rattle.hll_expressions.proofs.RangeLemmas.{nothing_noted}
use Rattle.hll_types.proofs.RangeWalk.{node_fails, walk_all, walk_more}
use Rattle.hll_types.proofs.ranges.expressions.Goals as goal

pub loop-expr-init : goal.loop-expr-init
loop-expr-init c = nothing_noted c.args.ranges.now

pub loop-expr-preserved : goal.loop-expr-preserved
loop-expr-preserved c = walk_more (λ e. nodes e (context c.args.scope.now)) c.args.exprs.now c.loop-expr.expr-index c.expr-item.result c.loop-expr-test.true c.expr-item.is c.loop-expr.invariant c.in_ok-expression.ensures

pub returns-in_err-expression : goal.returns-in_err-expression
returns-in_err-expression c =
    let f = c.in_err-expression.field-0.0 in
    node_fails (λ e. nodes e (context c.args.scope.now)) c.args.exprs.now c.loop-expr.expr-index c.args.ranges.now c.expression.new.ranges c.from_residual.result c.expr-item.result f c.from_residual.ensures.1 c.loop-expr-test.true c.expr-item.is c.in_err-expression.ensures

pub returns : goal.returns
returns c = walk_all (λ e. nodes e (context c.args.scope.now)) c.args.exprs.now c.loop-expr.expr-index c.loop-expr-test.false c.loop-expr.invariant
