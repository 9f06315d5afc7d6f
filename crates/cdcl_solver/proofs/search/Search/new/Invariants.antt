use Rattle.std.proofs.Common.{◌≡◌, ◌<◌, ℕ, length}
use Rattle.std.specs.Prelude.{ℤ, ◌↔◌, All, Contains}
use Rattle.rup_checker.specs.Formulas.{IsLiteral}
use Rattle.rup_checker.specs.Stores.{clause_at}
use Rattle.cdcl_solver.specs.Literals.{IsClear}
use Rattle.cdcl_solver.specs.Watches.{listed, AreApart, AreWatched}
use Rattle.cdcl_solver.proofs.search.Search.new.Given as goal

abbrev pub invariant-loop-number : goal.invariant-loop-number
invariant-loop-number l = record {
  set : l.falsified.variables ≡ l.formula.variables;
  clear : IsClear l.falsified;
  lists : l.watches.variables ≡ l.formula.variables;
  count : length l.clauses.clauses ≡ l.number;
  same : (k : ℕ) (m : ℤ) → k < l.number → Contains (clause_at l.clauses.clauses k) m ↔ Contains (clause_at l.formula.clauses k) m;
  in_range : All (All (IsLiteral l.formula.variables)) l.clauses.clauses;
  apart : All (AreApart (λ (m : ℤ). m)) l.clauses.clauses;
  watched : AreWatched l.formula.variables l.clauses.clauses (listed l.watches);
}
