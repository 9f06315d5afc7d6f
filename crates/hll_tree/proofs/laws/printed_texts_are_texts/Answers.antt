use Rattle.hll_tree.proofs.PrintLaw.{printed_texts}
use Rattle.hll_tree.proofs.laws.printed_texts_are_texts.Goals as goal

pub returns : goal.returns
returns c = printed_texts
