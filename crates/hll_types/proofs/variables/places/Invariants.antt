use Rattle.std.proofs.Common.{◌≡◌, map, take}
use Rattle.std.specs.List.{flat_map}
use Rattle.hll_types.specs.Checked.{variables_in}
use Rattle.hll_types.proofs.variables.places.Given as goal

abbrev pub invariant-loop-section : goal.invariant-loop-section
invariant-loop-section l = l.places.items ≡ flat_map (λ s. map (λ n. n.at) (variables_in s)) (take l.section-index l.section-items)
