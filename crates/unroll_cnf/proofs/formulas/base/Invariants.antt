use Rattle.std.proofs.Common.{◌≡◌, ◌+◌, ◌*◌, false, length}
use Rattle.unroll_cnf.specs.Unrollings.{base_demands, unrolled_clauses}
use Rattle.unroll_cnf.proofs.formulas.base.Given as goal

abbrev pub invariant-loop-instant : goal.invariant-loop-instant
invariant-loop-instant l =
    (l.formula.variables ≡ (l.j + 1) * length l.l.signals)
    × (l.formula.clauses ≡ unrolled_clauses l.l.signals false (base_demands l.l l.obligation l.j) l.instant)
