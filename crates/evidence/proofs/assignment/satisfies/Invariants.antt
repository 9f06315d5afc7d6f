use Rattle.std.proofs.Common.{take}
use Rattle.rup_checker.specs.Formulas.{Satisfies, listed}
use Rattle.evidence.proofs.assignment.satisfies.Given as goal

abbrev pub invariant-loop-number : goal.invariant-loop-number
invariant-loop-number l = Satisfies (listed l.values) (take l.number l.formula.clauses)
