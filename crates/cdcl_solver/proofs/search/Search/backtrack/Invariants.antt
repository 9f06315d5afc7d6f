use Rattle.std.proofs.Common.{◌≡◌, ◌≤◌, length, take}
use Rattle.cdcl_solver.specs.Literals.{Marks}
use Rattle.cdcl_solver.specs.Trails.{falses}
use Rattle.cdcl_solver.proofs.search.Search.backtrack.Given as goal

abbrev pub invariant-loop-self : goal.invariant-loop-self
invariant-loop-self l = record {
  rest : l.self-inside.trail ≡ take (length l.self-inside.trail) l.initial.self-inside.trail;
  above : l.place ≤ length l.self-inside.trail;
  marks : Marks l.self-inside.falsified (falses l.self-inside.trail);
  variables : l.self-inside.falsified.variables ≡ l.initial.self-inside.falsified.variables;
  clauses : l.self-inside.clauses ≡ l.initial.self-inside.clauses;
  watches : l.self-inside.watches ≡ l.initial.self-inside.watches;
  started : l.self-inside.started ≡ l.initial.self-inside.started;
}

abbrev pub decreases-loop-self : goal.decreases-loop-self
decreases-loop-self l = length l.self-inside.trail
