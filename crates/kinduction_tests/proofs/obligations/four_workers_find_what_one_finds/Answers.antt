use Rattle.std.proofs.Common.{rules}
use Rattle.kinduction_tests.proofs.obligations.four_workers_find_what_one_finds.Goals as goal

pub decide_all-requires-clause-size : goal.decide_all-requires-clause-size
decide_all-requires-clause-size g c = λ lifetimes p lt. c.has_fit_rounds.ensures.size (search rules) p

pub decide_all-requires-in-loop-obligations-clause-size : goal.decide_all-requires-in-loop-obligations-clause-size
decide_all-requires-in-loop-obligations-clause-size g c = λ lifetimes p lt. c.has_fit_rounds.ensures.size (search rules) p
