use Rattle.std.proofs.Common.{◌+◌, ◌≤◌}
use Rattle.evidence.proofs.reader_tests.a_text_that_ends_early_is_wrong_after_its_last_line.Given as goal

abbrev pub invariant-loop-at : goal.invariant-loop-at
invariant-loop-at g l = l.lines ≤ l.at + 1
