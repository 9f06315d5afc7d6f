use Rattle.hll_grammar.proofs.Faults.{unexpected_spells_nothing, deep_spells_nothing}
use Rattle.hll_grammar.proofs.law.fault_spells_nothing.Goals as goal

pub returns-clause-unexpected : goal.returns-clause-unexpected
returns-clause-unexpected c = λ text tokens at m. unexpected_spells_nothing at m

pub returns-clause-deep : goal.returns-clause-deep
returns-clause-deep c = λ text tokens at m. deep_spells_nothing at m
