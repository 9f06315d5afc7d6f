use Rattle.std.proofs.Common.{◌≡◌, ◌+◌, ◌<◌, ◌≤◌, ℕ, length, get_or}
use Rattle.std.specs.Prelude.{nat_abs}
use Rattle.cdcl_solver.proofs.Asserting.{nothing}
use Rattle.cdcl_solver.proofs.analysis.locate.Given as goal

abbrev pub invariant-loop-at : goal.invariant-loop-at
invariant-loop-at l = record {
  size : length l.places ≡ l.search.variables + 1;
  located : (k : ℕ) → l.start ≤ k + 1 → k < l.at → get_or l.places (nat_abs (get_or l.search.trail k nothing).literal) 0 ≡ k;
}
