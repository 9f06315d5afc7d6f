use Rattle.std.proofs.Common.{◌≡◌, List, [], take}
use Rattle.std.specs.List.{flat_map}
use Rattle.hll_tree.specs.declared.tree.Def.{Def}
use Rattle.hll_meaning.specs.StaticRules.{declared_in, variable_faults}
use Rattle.hll_types.specs.Defining.{Keeps}
use Rattle.hll_types.proofs.define.complete_all.Given as goal

abbrev pub invariant-loop-section : goal.invariant-loop-section
invariant-loop-section l = (defs : List Def) → Keeps l.defined defs → flat_map (λ s. flat_map (variable_faults defs) (declared_in s)) (take l.section-index l.section-items) ≡ []
