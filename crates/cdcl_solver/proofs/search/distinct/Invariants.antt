use Rattle.std.proofs.Common.{◌≡◌, take}
use Rattle.std.specs.Prelude.{ℤ, ◌↔◌, Contains}
use Rattle.cdcl_solver.specs.Literals.{Marks}
use Rattle.cdcl_solver.specs.Watches.{AreApart}
use Rattle.cdcl_solver.proofs.search.distinct.Given as goal

abbrev pub invariant-loop-literal : goal.invariant-loop-literal
invariant-loop-literal l = record {
  variables : l.seen.variables ≡ l.initial.seen.variables;
  same : (m : ℤ) → Contains l.list m ↔ Contains (take l.literal-index l.clause) m;
  apart : AreApart (λ (m : ℤ). m) l.list;
  marks : Marks l.seen l.list;
}
