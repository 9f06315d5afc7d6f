use Rattle.std.proofs.Common.{◌≡◌, ◌⊎◌, take}
use Rattle.std.specs.Prelude.{ℤ, ◌↔◌, Contains}
use Rattle.cdcl_solver.specs.Literals.{IsMarked}
use Rattle.cdcl_solver.proofs.analysis.mark.Given as goal

abbrev pub invariant-loop-literal : goal.invariant-loop-literal
invariant-loop-literal l = record {
  variables : l.seen.variables ≡ l.initial.seen.variables;
  marked : (m : ℤ) → IsMarked l.seen m ↔ (IsMarked l.initial.seen m ⊎ Contains (take l.literal-index l.clause) m);
}
