use Rattle.std.proofs.Common.{take}
use Rattle.std.specs.List.{flat_map}
use Rattle.hll_meaning.specs.Nodes.{all_nodes, ranges_of}
use Rattle.hll_expressions.specs.Scopes.{context}
use Rattle.hll_expressions.specs.Ranges.{HasNoted}
use Rattle.hll_types.proofs.ranges.declarators.Given as goal

abbrev pub invariant-loop-declarator : goal.invariant-loop-declarator
invariant-loop-declarator l = HasNoted l.fn.ranges l.ranges (ranges_of (flat_map (λ d. all_nodes d.dims (context l.scope)) (take l.declarator-index l.names)))
