use Rattle.std.proofs.Common.{◌≡◌}
use Rattle.rup_checker.specs.Occurrences.{ListsAll}
use Rattle.rup_checker.proofs.closing.occurrences.Given as goal

abbrev pub invariant-loop-number : goal.invariant-loop-number
invariant-loop-number l = record {
  variables : l.occurrences.variables ≡ l.known.variables;
  lists : ListsAll l.known.clauses l.number l.occurrences;
}
