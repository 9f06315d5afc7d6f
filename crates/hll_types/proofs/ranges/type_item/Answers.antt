use Rattle.std.proofs.Common.{◌++◌, sym, ap, ◌∙◌}
use Rattle.hll_meaning.specs.Nodes.{all_nodes, fields_nodes, type_item_nodes, type_nodes}
use Rattle.hll_expressions.specs.Scopes.{context}
use Rattle.hll_types.proofs.RangeWalk.{nothing_walked, walked_as}
use Rattle.hll_types.proofs.ranges.type_item.Goals as goal

pub returns-in-Alias : goal.returns-in-Alias
returns-in-Alias c =
    let k = context c.args.scope.now in
    walked_as _ _ _ _ c.with_dims.result (ap (λ ds. type_nodes c.in-Alias.text k ++ all_nodes ds k) c.as_slice.ensures ∙ ap (λ t. type_item_nodes t k) (sym c.in-Alias.is)) c.with_dims.ensures

pub returns-in-Structure : goal.returns-in-Structure
returns-in-Structure c =
    let k = context c.args.scope.now in
    walked_as _ _ _ _ c.fields.result (ap (λ fs. fields_nodes fs k) c.as_slice-in-Structure.ensures ∙ ap (λ t. type_item_nodes t k) (sym c.in-Structure.is)) c.fields.ensures

pub returns-in-Enumeration : goal.returns-in-Enumeration
returns-in-Enumeration c = nothing_walked c.args.ranges.now (ap (λ t. type_item_nodes t (context c.args.scope.now)) c.in-Enumeration.is)

pub returns-in-Leaves : goal.returns-in-Leaves
returns-in-Leaves c = nothing_walked c.args.ranges.now (ap (λ t. type_item_nodes t (context c.args.scope.now)) c.in-Leaves.is)

pub returns-in-Children : goal.returns-in-Children
returns-in-Children c = nothing_walked c.args.ranges.now (ap (λ t. type_item_nodes t (context c.args.scope.now)) c.in-Children.is)
