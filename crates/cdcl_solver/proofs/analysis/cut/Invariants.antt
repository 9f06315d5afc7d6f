use Rattle.std.proofs.Common.{◌+◌, ◌≤◌, length}
use Rattle.cdcl_solver.specs.Explanations.{IsOpened}
use Rattle.cdcl_solver.proofs.analysis.cut.Given as goal

abbrev pub invariant-loop-at : goal.invariant-loop-at
invariant-loop-at l = record {
  within : l.at ≤ length l.search.trail;
  inside : l.start ≤ l.at + 1;
  opened : IsOpened l.search l.start l.at l.explained;
}

abbrev pub decreases-loop-at : goal.decreases-loop-at
decreases-loop-at l = l.at
