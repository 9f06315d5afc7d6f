use Rattle.std.proofs.Common.{fold, take}
use Rattle.hll_types.specs.Defining.{IsAfter}
use Rattle.hll_expressions.specs.Things.{names_of}
use Rattle.hll_types.proofs.PassFolds.{with_section, at_first}
use Rattle.hll_types.proofs.define.define.Given as goal

abbrev pub invariant-loop-section : goal.invariant-loop-section
invariant-loop-section l = IsAfter l.defined (fold (with_section (names_of l.names)) at_first (take l.section-index l.section-items))
