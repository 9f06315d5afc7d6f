use Rattle.std.proofs.Common.{◌≡◌, ◌+◌, ◌*◌, true, length}
use Rattle.unroll_cnf.specs.Unrollings.{step_demands, unrolled_clauses}
use Rattle.unroll_cnf.proofs.formulas.step.Given as goal

abbrev pub invariant-loop-instant : goal.invariant-loop-instant
invariant-loop-instant l =
    (l.formula.variables ≡ (l.k + 1) * length l.l.signals)
    × (l.formula.clauses ≡ unrolled_clauses l.l.signals true (step_demands l.l l.obligation l.k) l.instant)
