use Rattle.std.proofs.Common.{◌++◌, take}
use Rattle.std.specs.List.{flat_map}
use Rattle.hll_meaning.specs.Nodes.{all_nodes, ranges_of, type_nodes}
use Rattle.hll_expressions.specs.Scopes.{context}
use Rattle.hll_expressions.specs.Ranges.{HasNoted}
use Rattle.hll_types.proofs.ranges.fields.Given as goal

abbrev pub invariant-loop-field : goal.invariant-loop-field
invariant-loop-field l = HasNoted l.fn.ranges l.ranges (ranges_of (flat_map (λ f. type_nodes f.ty (context l.scope) ++ all_nodes f.of.dims (context l.scope)) (take l.field-index l.items)))
