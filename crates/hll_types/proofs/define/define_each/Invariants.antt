use Rattle.std.proofs.Common.{fold, take}
use Rattle.hll_meaning.specs.StaticRules.{Pass2}
use Rattle.hll_types.specs.Defining.{with_definition, IsAfter}
use Rattle.hll_expressions.specs.Things.{names_of}
use Rattle.hll_types.proofs.define.define_each.Given as goal

abbrev pub invariant-loop-def : goal.invariant-loop-def
invariant-loop-def l = (p : Pass2) → IsAfter l.initial.defined p → IsAfter l.defined (fold (with_definition (names_of l.names)) p (take l.def-index l.defs))
