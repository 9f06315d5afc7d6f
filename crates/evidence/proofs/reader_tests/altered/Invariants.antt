use Rattle.std.proofs.Common.{◌+◌, ◌≤◌}
use Rattle.evidence.proofs.reader_tests.altered.Given as goal

abbrev pub invariant-loop-byte : goal.invariant-loop-byte
invariant-loop-byte l = l.at ≤ l.byte-index + 1
