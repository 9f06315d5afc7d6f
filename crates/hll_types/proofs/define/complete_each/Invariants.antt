use Rattle.std.proofs.Common.{◌≡◌, List, [], take}
use Rattle.hll_tree.specs.declared.tree.Def.{Def}
use Rattle.hll_types.specs.Defining.{declarator_faults, Keeps}
use Rattle.hll_types.proofs.define.complete_each.Given as goal

abbrev pub invariant-loop-declarator : goal.invariant-loop-declarator
invariant-loop-declarator l = (defs : List Def) → Keeps l.defined defs → declarator_faults defs (take l.declarator-index l.declarators) ≡ []
