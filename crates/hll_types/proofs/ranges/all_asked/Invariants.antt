use Rattle.std.proofs.Common.{take}
use Rattle.std.specs.List.{flat_map}
use Rattle.hll_meaning.specs.Nodes.{asked_nodes, ranges_of}
use Rattle.hll_meaning.specs.StaticRules.{asked_in}
use Rattle.hll_expressions.specs.Things.{names_of}
use Rattle.hll_expressions.specs.Ranges.{HasNoted}
use Rattle.hll_types.proofs.ranges.all_asked.Given as goal

abbrev pub invariant-loop-section : goal.invariant-loop-section
invariant-loop-section l = HasNoted l.fn.ranges l.ranges (ranges_of (flat_map (λ s. flat_map (asked_nodes (names_of l.names)) (asked_in s)) (take l.section-index l.sections)))
