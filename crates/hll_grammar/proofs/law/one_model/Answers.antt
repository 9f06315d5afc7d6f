use Rattle.hll_grammar.proofs.OneModel.{one_model}
use Rattle.hll_grammar.proofs.law.one_model.Goals as goal

pub returns : goal.returns
returns c = λ text tokens m n. one_model text tokens m n
