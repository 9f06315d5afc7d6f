use Rattle.std.proofs.Common.{◌≡◌, ◌++◌, map, take}
use Rattle.std.specs.List.{flat_map}
use Rattle.hll_types.proofs.variables.push_declared.Given as goal

abbrev pub invariant-loop-decl : goal.invariant-loop-decl
invariant-loop-decl l = l.places.items ≡ l.initial.places.items ++ flat_map (λ decl. map (λ d. d.name.at) decl.names) (take l.decl-index l.decls)
