use Rattle.hll_lexer.proofs.SplitLemmas.{split_or_fault}
use Rattle.hll_lexer.proofs.TotalLemmas.{split_or_first_fault}
use Rattle.hll_lexer.proofs.laws.split_or_fault.Goals as goal

pub returns-clause-either : goal.returns-clause-either
returns-clause-either c = split_or_first_fault

pub returns-clause-never_both : goal.returns-clause-never_both
returns-clause-never_both c = split_or_fault
