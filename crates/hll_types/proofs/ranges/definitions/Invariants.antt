use Rattle.std.proofs.Common.{take}
use Rattle.std.specs.List.{flat_map}
use Rattle.hll_meaning.specs.Nodes.{asked_nodes, ranges_of}
use Rattle.hll_meaning.specs.StaticRules.{defines}
use Rattle.hll_expressions.specs.Things.{names_of}
use Rattle.hll_expressions.specs.Ranges.{HasNoted}
use Rattle.hll_types.proofs.ranges.definitions.Given as goal

abbrev pub invariant-loop-def : goal.invariant-loop-def
invariant-loop-def l = HasNoted l.fn.ranges l.ranges (ranges_of (flat_map (λ d. asked_nodes (names_of l.names) (defines d)) (take l.def-index l.defs)))
