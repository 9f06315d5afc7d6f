use Rattle.hll_meaning.proofs.WellTexts.{definitions_fit}
use Rattle.hll_meaning.proofs.laws.definitions_fit.Goals as goal

pub returns : goal.returns
returns c = definitions_fit
