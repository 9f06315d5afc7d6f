use Rattle.std.proofs.Common.{◌≡◌, ◌<◌, ℕ}
use Rattle.std.specs.Prelude.{Contains, length}
use Rattle.rup_checker.specs.Closing.{IsQuietBut}
use Rattle.rup_checker.specs.Occurrences.{linked}
use Rattle.rup_checker.proofs.closing.Propagation.visit_listed.Given as goal

abbrev pub invariant-loop-cell : goal.invariant-loop-cell
invariant-loop-cell l = record {
  known : l.self-inside.known ≡ l.initial.self-inside.known;
  occurrences : l.self-inside.occurrences ≡ l.initial.self-inside.occurrences;
  variables : l.self-inside.trail.variables ≡ l.self-inside.known.variables;
  followed : l.self-inside.trail.followed ≡ l.initial.self-inside.trail.followed;
  within : (n : ℕ) → Contains (linked l.self-inside.occurrences l.link) n → n < length l.self-inside.known.clauses;
  quiet : IsQuietBut l.self-inside.known.clauses (Contains (linked l.self-inside.occurrences l.link)) l.self-inside.trail;
}

abbrev pub decreases-loop-cell : goal.decreases-loop-cell
decreases-loop-cell l = l.link
