use Rattle.hll_lexer.proofs.SplitLemmas.{one_split}
use Rattle.hll_lexer.proofs.laws.one_split.Goals as goal

pub returns : goal.returns
returns c = one_split
