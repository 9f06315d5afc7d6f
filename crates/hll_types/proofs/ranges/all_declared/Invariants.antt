use Rattle.std.proofs.Common.{take}
use Rattle.std.specs.List.{flat_map}
use Rattle.hll_meaning.specs.Declarations.{items_in}
use Rattle.hll_meaning.specs.Nodes.{item_nodes, ranges_of}
use Rattle.hll_expressions.specs.Scopes.{context}
use Rattle.hll_expressions.specs.Ranges.{HasNoted}
use Rattle.hll_types.proofs.ranges.all_declared.Given as goal

abbrev pub invariant-loop-section : goal.invariant-loop-section
invariant-loop-section l = HasNoted l.fn.ranges l.ranges (ranges_of (flat_map (λ s. flat_map (λ it. item_nodes it (context l.scope)) (items_in s)) (take l.section-index l.sections)))
