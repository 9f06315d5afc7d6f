use Rattle.std.proofs.Common.{◌≡◌, ◌++◌, map, take}
use Rattle.hll_types.proofs.variables.push_places.Given as goal

abbrev pub invariant-loop-declarator : goal.invariant-loop-declarator
invariant-loop-declarator l = l.places.items ≡ l.initial.places.items ++ map (λ d. d.name.at) (take l.declarator-index l.declarators)
