use Rattle.std.proofs.Common.{ap}
use Rattle.hll_meaning.specs.Nodes.{declarators_nodes, type_nodes}
use Rattle.hll_expressions.specs.Scopes.{context}
use Rattle.hll_types.proofs.RangeWalk.{fails_first, walked_as, walked_behind}
use Rattle.hll_types.proofs.ranges.variables.Goals as goal

pub returns-in_err-written : goal.returns-in_err-written
returns-in_err-written c = fails_first c.args.ranges.now c.written.new.ranges (type_nodes c.args.decl.now.ty (context c.args.scope.now)) (declarators_nodes c.args.decl.now.names (context c.args.scope.now)) c.from_residual.result c.in_err-written.field-0.0 c.from_residual.ensures.1 c.in_err-written.ensures

pub returns : goal.returns
returns c =
    let r = c.declarators.result in
    walked_behind _ (type_nodes c.args.decl.now.ty (context c.args.scope.now)) (declarators_nodes c.args.decl.now.names (context c.args.scope.now)) r c.in_ok-written.ensures (walked_as _ _ _ _ r (ap (λ ds. declarators_nodes ds (context c.args.scope.now)) c.as_slice.ensures) c.declarators.ensures)
