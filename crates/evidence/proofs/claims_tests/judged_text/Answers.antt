use Rattle.std.proofs.Common.{[], ◌++◌}
use Rattle.evidence.proofs.claims_tests.judged_text.Goals as goal

pub feed-requires : goal.feed-requires
feed-requires c = record { stands = ([], c.new-feed.ensures.stands) }

pub feed-requires-2 : goal.feed-requires-2
feed-requires-2 c = record { stands = (_, c.feed.ensures.stands [] c.new-feed.ensures.stands) }

pub end-requires : goal.end-requires
end-requires c = record { stands = (_, c.feed-2.ensures.stands _ (c.feed.ensures.stands [] c.new-feed.ensures.stands)) }
