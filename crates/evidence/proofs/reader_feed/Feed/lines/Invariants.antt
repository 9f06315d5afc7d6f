use Rattle.std.proofs.Common.{length}
use Rattle.evidence.proofs.FeedTurns.{IsReadTo}
use Rattle.evidence.proofs.reader_feed.Feed.lines.Given as goal

abbrev pub invariant-loop-end : goal.invariant-loop-end
invariant-loop-end l = IsReadTo l.piece l.initial.self l.self l.rest

abbrev pub decreases-loop-end : goal.decreases-loop-end
decreases-loop-end l = length l.rest
