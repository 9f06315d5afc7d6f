use Rattle.std.proofs.Common.{◌≡◌, map, take}
use Rattle.hll_types.proofs.variables.positions.Given as goal

abbrev pub invariant-loop-variable : goal.invariant-loop-variable
invariant-loop-variable l = map (λ k. k.items) l.names.keys ≡ map (λ v. v.name) (take l.variable-index l.variables)
