use Rattle.std.proofs.Common.{◌++◌}
use Rattle.evidence.proofs.reader_tests.answered.Goals as goal

pub loop-piece-preserved : goal.loop-piece-preserved
loop-piece-preserved c =
    let before = c.loop-piece.invariant in
    (before.0 ++ c.in-Some.piece.now, c.feed.ensures.stands before.0 before.1)
