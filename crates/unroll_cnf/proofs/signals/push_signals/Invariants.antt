use Rattle.std.proofs.Common.{◌≡◌, ◌++◌, take}
use Rattle.unroll_cnf.specs.Clauses.{clauses_from}
use Rattle.unroll_cnf.proofs.signals.push_signals.Given as goal

abbrev pub invariant-loop-number : goal.invariant-loop-number
invariant-loop-number l =
    (l.formula.variables ≡ l.fn.formula.variables)
    × (l.formula.clauses ≡ l.fn.formula.clauses ++ clauses_from l.size l.window l.instant 0 (take l.number l.signals))
