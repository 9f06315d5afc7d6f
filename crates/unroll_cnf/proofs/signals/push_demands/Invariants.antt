use Rattle.std.proofs.Common.{◌≡◌, ◌++◌, take}
use Rattle.unroll_cnf.specs.Unrollings.{demand_clauses}
use Rattle.unroll_cnf.proofs.signals.push_demands.Given as goal

abbrev pub invariant-loop-literal : goal.invariant-loop-literal
invariant-loop-literal l =
    (l.formula.variables ≡ l.fn.formula.variables)
    × (l.formula.clauses ≡ l.fn.formula.clauses ++ demand_clauses l.size l.instant (take l.literal-index l.literals))
