use Rattle.std.proofs.Common.{◌++◌, List, take}
use Rattle.hll_tree.specs.declared.tree.Def.{Def}
use Rattle.cell_definitions.specs.Parts.{Gathers}
use Rattle.cell_definitions.proofs.gathering.add_all.Given as goal

abbrev pub invariant-loop-def : goal.invariant-loop-def
invariant-loop-def l = (before : List Def) → Gathers l.checked before l.initial.own → Gathers l.checked (before ++ take l.def-index l.defs) l.own
