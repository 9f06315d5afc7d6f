use Rattle.std.proofs.Common.{◌≡◌, drop}
use Rattle.std.specs.Prelude.{ℤ, Contains}
use Rattle.rup_checker.specs.Formulas.{IsLiteral}
use Rattle.cdcl_solver.specs.Literals.{IsMarked}
use Rattle.cdcl_solver.proofs.search.unmark.Given as goal

abbrev pub invariant-loop-literal : goal.invariant-loop-literal
invariant-loop-literal l = record {
  variables : l.seen.variables ≡ l.initial.seen.variables;
  marked : (m : ℤ) → IsLiteral l.seen.variables m → IsMarked l.seen m → Contains (drop l.literal-index l.list) m;
}
