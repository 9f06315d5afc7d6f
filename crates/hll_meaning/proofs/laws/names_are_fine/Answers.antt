use Rattle.hll_meaning.proofs.Agreement.{names_fine}
use Rattle.hll_meaning.proofs.laws.names_are_fine.Goals as goal

pub returns : goal.returns
returns c = names_fine
