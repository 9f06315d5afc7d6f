use Rattle.std.proofs.Common.{rules}
use Rattle.kinduction_tests.proofs.obligations.obligations_are_decided_as_by_hand.Goals as goal

pub decide-requires-clause-size : goal.decide-requires-clause-size
decide-requires-clause-size g c = c.has_fit_rounds.ensures.size (search rules) _
