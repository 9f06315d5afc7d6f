use Rattle.std.proofs.Common.{rules}
use Rattle.hll_tests.proofs.made_evidence.made_evidence_is_accepted_with_its_verdicts.Goals as goal

pub decide_all-requires-clause-size : goal.decide_all-requires-clause-size
decide_all-requires-clause-size g c = λ lifetimes p lt. c.has_fit_rounds.ensures.size (search rules) p
