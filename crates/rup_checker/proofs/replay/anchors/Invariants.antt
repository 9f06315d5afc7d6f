use Rattle.std.proofs.Common.{◌≡◌}
use Rattle.rup_checker.specs.Containment.{AreAnchored}
use Rattle.rup_checker.proofs.replay.anchors.Given as goal

abbrev pub invariant-loop-number : goal.invariant-loop-number
invariant-loop-number l = record {
  variables : l.anchors.occurrences.variables ≡ l.known.variables;
  anchored : AreAnchored l.known.clauses l.number l.anchors;
}
