use Rattle.std.proofs.Common.{rules}
use Rattle.kinduction_tests.proofs.obligations.a_broken_run_is_shown_by_its_inputs.Goals as goal

pub decide-requires-clause-size : goal.decide-requires-clause-size
decide-requires-clause-size g c = c.has_fit_rounds.ensures.size (search rules) 0
