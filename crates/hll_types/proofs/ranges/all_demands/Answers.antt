use Rattle.hll_meaning.specs.Nodes.{asked_nodes}
use Rattle.hll_meaning.specs.StaticRules.{demands}
use Rattle.hll_expressions.specs.Things.{names_of}
use Rattle.hll_expressions.proofs.RangeLemmas.{nothing_noted}
use Rattle.hll_types.specs.Walking.{IsFineAsked}
use Rattle.hll_types.proofs.RangeWalk.{each_fails, walk_all, walk_more}
use Rattle.hll_types.proofs.ranges.all_demands.Goals as goal

pub loop-expr-init : goal.loop-expr-init
loop-expr-init c = nothing_noted c.args.ranges.now

pub loop-expr-preserved : goal.loop-expr-preserved
loop-expr-preserved c = walk_more (λ e. asked_nodes (names_of c.args.names.now) (demands e)) c.args.exprs.now c.loop-expr.expr-index c.expr-item.result c.loop-expr-test.true c.expr-item.is c.loop-expr.invariant c.in_ok-demand.ensures

pub returns-in_err-demand : goal.returns-in_err-demand
returns-in_err-demand c =
    let f = c.in_err-demand.field-0.0 in
    each_fails (λ e. asked_nodes (names_of c.args.names.now) (demands e)) c.args.exprs.now c.loop-expr.expr-index (λ e. IsFineAsked (names_of c.args.names.now) (demands e)) c.args.ranges.now c.demand.new.ranges c.from_residual.result c.expr-item.result f c.from_residual.ensures.1 c.loop-expr-test.true c.expr-item.is c.in_err-demand.ensures

pub returns : goal.returns
returns c = walk_all (λ e. asked_nodes (names_of c.args.names.now) (demands e)) c.args.exprs.now c.loop-expr.expr-index c.loop-expr-test.false c.loop-expr.invariant
