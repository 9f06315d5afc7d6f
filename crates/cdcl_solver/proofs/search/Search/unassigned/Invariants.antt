use Rattle.std.proofs.Common.{◌<◌, ◌≤◌, ◌⊎◌, ℕ}
use Rattle.std.specs.Prelude.{pos, neg_ℤ, Contains}
use Rattle.cdcl_solver.specs.Searches.{taken}
use Rattle.cdcl_solver.proofs.search.Search.unassigned.Given as goal

abbrev pub invariant-loop-variable : goal.invariant-loop-variable
invariant-loop-variable l = (v : ℕ) → 1 ≤ v → v < l.variable → Contains (taken l.self) (pos v) ⊎ Contains (taken l.self) (neg_ℤ (pos v))
