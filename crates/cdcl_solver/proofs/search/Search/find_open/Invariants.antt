use Rattle.std.proofs.Common.{◌<◌, ◌≤◌, ℕ, get_or}
use Rattle.std.specs.Prelude.{ℤ, Contains}
use Rattle.cdcl_solver.specs.Trails.{falses}
use Rattle.cdcl_solver.proofs.search.Search.find_open.Given as goal

abbrev pub invariant-loop-place : goal.invariant-loop-place
invariant-loop-place l = (k : ℕ) (d : ℤ) → 2 ≤ k → k < l.place → Contains (falses l.self-inside.trail) (get_or l.clause k d)
