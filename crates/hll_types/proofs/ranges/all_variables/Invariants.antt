use Rattle.std.proofs.Common.{◌++◌, take}
use Rattle.std.specs.List.{flat_map}
use Rattle.hll_meaning.specs.Nodes.{declarators_nodes, ranges_of, type_nodes}
use Rattle.hll_expressions.specs.Scopes.{context}
use Rattle.hll_expressions.specs.Ranges.{HasNoted}
use Rattle.hll_types.proofs.ranges.all_variables.Given as goal

abbrev pub invariant-loop-decl : goal.invariant-loop-decl
invariant-loop-decl l = HasNoted l.fn.ranges l.ranges (ranges_of (flat_map (λ d. type_nodes d.ty (context l.scope) ++ declarators_nodes d.names (context l.scope)) (take l.decl-index l.decls)))
