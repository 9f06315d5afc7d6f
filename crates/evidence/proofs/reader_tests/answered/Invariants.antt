use Rattle.std.proofs.Common.{List, ℕ}
use Rattle.evidence.specs.Stands.{Stands}
use Rattle.evidence.proofs.reader_tests.answered.Given as goal

abbrev pub invariant-loop-piece : goal.invariant-loop-piece
invariant-loop-piece l = (bytes : List ℕ) × Stands l.feed bytes
