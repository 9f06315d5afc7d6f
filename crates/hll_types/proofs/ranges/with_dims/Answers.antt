use Rattle.hll_meaning.specs.Nodes.{all_nodes, type_nodes}
use Rattle.hll_expressions.specs.Scopes.{context}
use Rattle.hll_types.proofs.RangeWalk.{fails_first, walked_behind}
use Rattle.hll_types.proofs.ranges.with_dims.Goals as goal

pub returns-in_err-written : goal.returns-in_err-written
returns-in_err-written c = fails_first c.args.ranges.now c.written.new.ranges (type_nodes c.args.text.now (context c.args.scope.now)) (all_nodes c.args.dims.now (context c.args.scope.now)) c.from_residual.result c.in_err-written.field-0.0 c.from_residual.ensures.1 c.in_err-written.ensures

pub returns : goal.returns
returns c = walked_behind _ (type_nodes c.args.text.now (context c.args.scope.now)) (all_nodes c.args.dims.now (context c.args.scope.now)) c.expressions.result c.in_ok-written.ensures c.expressions.ensures
