use Rattle.std.proofs.Common.{◌≡◌, ◌+◌, ◌<◌, ℕ, length, get_or, false}
use Rattle.std.specs.Prelude.{pos, neg_ℤ, ◌↔◌, IsTrue, Contains}
use Rattle.cdcl_solver.specs.Searches.{taken}
use Rattle.cdcl_solver.proofs.search.Search.assignment.Given as goal

abbrev pub invariant-loop-variable : goal.invariant-loop-variable
invariant-loop-variable l = record {
  count : length l.list.items + 1 ≡ l.variable;
  values : (k : ℕ) → k + 1 < l.variable → IsTrue (get_or l.list.items k false) ↔ Contains (taken l.self) (neg_ℤ (pos (k + 1)));
}
