use Rattle.std.proofs.Common.{take}
use Rattle.std.specs.List.{flat_map}
use Rattle.hll_meaning.specs.Nodes.{ranges_of, type_item_nodes}
use Rattle.hll_expressions.specs.Scopes.{context}
use Rattle.hll_expressions.specs.Ranges.{HasNoted}
use Rattle.hll_types.proofs.ranges.types.Given as goal

abbrev pub invariant-loop-item : goal.invariant-loop-item
invariant-loop-item l = HasNoted l.fn.ranges l.ranges (ranges_of (flat_map (λ t. type_item_nodes t (context l.scope)) (take l.item-index l.items)))
