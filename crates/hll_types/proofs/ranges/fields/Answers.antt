use Rattle.std.proofs.Common.{◌++◌, sym, ap, subst}
use Rattle.std.specs.List.{AllByRecursion}
use Rattle.hll_meaning.specs.Nodes.{all_nodes, ranges_of, type_nodes}
use Rattle.hll_meaning.specs.NodeLaws.{IsFaultless}
use Rattle.hll_expressions.specs.Scopes.{context}
use Rattle.hll_expressions.proofs.RangeLemmas.{nothing_noted, noted_as}
use Rattle.hll_types.proofs.RangeWalk.{node_fails, walk_all, walk_more}
use Rattle.hll_types.proofs.ranges.fields.Goals as goal

pub loop-field-init : goal.loop-field-init
loop-field-init c = nothing_noted c.args.ranges.now

pub loop-field-preserved : goal.loop-field-preserved
loop-field-preserved c = walk_more (λ f. type_nodes f.ty (context c.args.scope.now) ++ all_nodes f.of.dims (context c.args.scope.now)) c.args.items.now c.loop-field.field-index c.field-item.result c.loop-field-test.true c.field-item.is c.loop-field.invariant (noted_as (ap (λ ds. ranges_of (type_nodes c.field-item.result.ty (context c.args.scope.now) ++ all_nodes ds (context c.args.scope.now))) c.as_slice.ensures) c.in_ok-with_dims.ensures)

pub returns-in_err-with_dims : goal.returns-in_err-with_dims
returns-in_err-with_dims c =
    let f = c.in_err-with_dims.field-0.0 in
    node_fails (λ f. type_nodes f.ty (context c.args.scope.now) ++ all_nodes f.of.dims (context c.args.scope.now)) c.args.items.now c.loop-field.field-index c.args.ranges.now c.with_dims.new.ranges c.from_residual.result c.field-item.result f c.from_residual.ensures.1 c.loop-field-test.true c.field-item.is (λ fine. c.in_err-with_dims.ensures (subst (λ ds. AllByRecursion IsFaultless (type_nodes c.field-item.result.ty (context c.args.scope.now) ++ all_nodes ds (context c.args.scope.now))) (sym c.as_slice.ensures) fine))

pub returns : goal.returns
returns c = walk_all (λ f. type_nodes f.ty (context c.args.scope.now) ++ all_nodes f.of.dims (context c.args.scope.now)) c.args.items.now c.loop-field.field-index c.loop-field-test.false c.loop-field.invariant
