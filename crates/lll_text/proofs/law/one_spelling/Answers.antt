use Rattle.lll_text.proofs.OneReading.{spelling-injective}
use Rattle.lll_text.proofs.law.one_spelling.Goals as goal

pub returns : goal.returns
returns c = spelling-injective
