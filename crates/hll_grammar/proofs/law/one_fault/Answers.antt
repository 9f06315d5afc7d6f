use Rattle.hll_grammar.proofs.Faults.{one_unexpected, one_deep, never_both_faults}
use Rattle.hll_grammar.proofs.law.one_fault.Goals as goal

pub returns-clause-unexpected : goal.returns-clause-unexpected
returns-clause-unexpected c = λ text tokens at other. one_unexpected at other

pub returns-clause-deep : goal.returns-clause-deep
returns-clause-deep c = λ text tokens at other. one_deep at other

pub returns-clause-never_both : goal.returns-clause-never_both
returns-clause-never_both c = λ text tokens at other. never_both_faults at other
