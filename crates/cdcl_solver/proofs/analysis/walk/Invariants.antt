use Rattle.std.proofs.Common.{◌≡◌, ◌≤◌, length}
use Rattle.cdcl_solver.specs.Explanations.{IsExplained}
use Rattle.cdcl_solver.proofs.analysis.walk.Given as goal

abbrev pub invariant-loop-at : goal.invariant-loop-at
invariant-loop-at l = record {
  within : l.at ≤ length l.search.trail;
  fixed : l.start ≡ 0 → l.at ≤ l.fixed;
  explained : IsExplained l.search l.start l.at l.explained;
}

abbrev pub decreases-loop-at : goal.decreases-loop-at
decreases-loop-at l = l.at
