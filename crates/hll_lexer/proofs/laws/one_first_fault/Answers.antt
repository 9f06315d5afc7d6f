use Rattle.hll_lexer.proofs.SplitLemmas.{one_first_fault}
use Rattle.hll_lexer.proofs.laws.one_first_fault.Goals as goal

pub returns : goal.returns
returns c = one_first_fault
