use Rattle.std.proofs.Common.{◌++◌}
use Rattle.hll_meaning.specs.Nodes.{declarators_nodes, type_nodes}
use Rattle.hll_expressions.specs.Scopes.{context}
use Rattle.hll_expressions.proofs.RangeLemmas.{nothing_noted}
use Rattle.hll_types.proofs.RangeWalk.{node_fails, walk_all, walk_more}
use Rattle.hll_types.proofs.ranges.all_variables.Goals as goal

pub loop-decl-init : goal.loop-decl-init
loop-decl-init c = nothing_noted c.args.ranges.now

pub loop-decl-preserved : goal.loop-decl-preserved
loop-decl-preserved c = walk_more (λ d. type_nodes d.ty (context c.args.scope.now) ++ declarators_nodes d.names (context c.args.scope.now)) c.args.decls.now c.loop-decl.decl-index c.decl-item.result c.loop-decl-test.true c.decl-item.is c.loop-decl.invariant c.in_ok-variables.ensures

pub returns-in_err-variables : goal.returns-in_err-variables
returns-in_err-variables c =
    let f = c.in_err-variables.field-0.0 in
    node_fails (λ d. type_nodes d.ty (context c.args.scope.now) ++ declarators_nodes d.names (context c.args.scope.now)) c.args.decls.now c.loop-decl.decl-index c.args.ranges.now c.variables.new.ranges c.from_residual.result c.decl-item.result f c.from_residual.ensures.1 c.loop-decl-test.true c.decl-item.is c.in_err-variables.ensures

pub returns : goal.returns
returns c = walk_all (λ d. type_nodes d.ty (context c.args.scope.now) ++ declarators_nodes d.names (context c.args.scope.now)) c.args.decls.now c.loop-decl.decl-index c.loop-decl-test.false c.loop-decl.invariant
