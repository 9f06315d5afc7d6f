use Rattle.std.proofs.Common.{◌≤◌}
use Rattle.hll_tests.proofs.values.text_and_report.Given as goal

abbrev pub invariant-loop-place : goal.invariant-loop-place
invariant-loop-place l = l.falsified ≤ l.place
