use Rattle.std.proofs.Common.{◌≡◌, List, [], take}
use Rattle.std.specs.List.{flat_map}
use Rattle.hll_tree.specs.declared.tree.Def.{Def}
use Rattle.hll_types.specs.Defining.{declarator_faults, Keeps}
use Rattle.hll_types.proofs.define.complete_declared.Given as goal

abbrev pub invariant-loop-decl : goal.invariant-loop-decl
invariant-loop-decl l = (defs : List Def) → Keeps l.defined defs → flat_map (λ decl. declarator_faults defs decl.names) (take l.decl-index l.decls) ≡ []
