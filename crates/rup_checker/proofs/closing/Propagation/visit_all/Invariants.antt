use Rattle.std.proofs.Common.{◌≡◌, ◌≤◌}
use Rattle.rup_checker.specs.Closing.{IsQuietBut}
use Rattle.rup_checker.proofs.closing.Propagation.visit_all.Given as goal

abbrev pub invariant-loop-number : goal.invariant-loop-number
invariant-loop-number l = record {
  known : l.self-inside.known ≡ l.initial.self-inside.known;
  occurrences : l.self-inside.occurrences ≡ l.initial.self-inside.occurrences;
  variables : l.self-inside.trail.variables ≡ l.self-inside.known.variables;
  quiet : IsQuietBut l.self-inside.known.clauses (λ n. l.number ≤ n) l.self-inside.trail;
}
