use Rattle.std.proofs.Common.{take}
use Rattle.rup_checker.specs.Occurrences.{AddsNumber}
use Rattle.rup_checker.proofs.occurrences.Occurrences.add_each.Given as goal

abbrev pub invariant-loop-literal : goal.invariant-loop-literal
invariant-loop-literal l = AddsNumber l.initial.self l.self (take l.literal-index l.literals) l.number
