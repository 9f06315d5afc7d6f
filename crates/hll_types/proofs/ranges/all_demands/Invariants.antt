use Rattle.std.proofs.Common.{take}
use Rattle.std.specs.List.{flat_map}
use Rattle.hll_meaning.specs.Nodes.{asked_nodes, ranges_of}
use Rattle.hll_meaning.specs.StaticRules.{demands}
use Rattle.hll_expressions.specs.Things.{names_of}
use Rattle.hll_expressions.specs.Ranges.{HasNoted}
use Rattle.hll_types.proofs.ranges.all_demands.Given as goal

abbrev pub invariant-loop-expr : goal.invariant-loop-expr
invariant-loop-expr l = HasNoted l.fn.ranges l.ranges (ranges_of (flat_map (λ e. asked_nodes (names_of l.names) (demands e)) (take l.expr-index l.exprs)))
