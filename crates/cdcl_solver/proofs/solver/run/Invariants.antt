use Rattle.std.proofs.Common.{◌≡◌, ◌+◌, ◌-◌, ◌*◌, ◌≤◌, length}
use Rattle.cdcl_solver.specs.Literals.{IsClear}
use Rattle.cdcl_solver.proofs.Solving.{IsSolving}
use Rattle.cdcl_solver.proofs.solver.run.Given as goal

abbrev pub invariant-loop-steps : goal.invariant-loop-steps
invariant-loop-steps l = record {
  solving : IsSolving l.formula l.search l.steps;
  few : length l.steps ≤ l.budget;
  variables : l.work.seen.variables ≡ l.formula.variables;
  clear : IsClear l.work.seen;
  size : length l.work.places ≡ l.formula.variables + 1;
}

abbrev pub decreases-loop-steps : goal.decreases-loop-steps
decreases-loop-steps l = (l.budget - length l.steps) * (l.formula.variables + 1) + (l.formula.variables - length l.search.trail)
