use Rattle.std.proofs.Common.{rules}
use Rattle.kinduction_tests.proofs.obligations.any_number_of_workers_finds_the_same.Goals as goal

pub decide_all-requires-clause-size : goal.decide_all-requires-clause-size
decide_all-requires-clause-size g c = λ lifetimes p lt. c.has_fit_rounds.ensures.size (search rules) p
