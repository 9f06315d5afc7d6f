use Rattle.hll_meaning.proofs.Agreement.{names_agree}
use Rattle.hll_meaning.proofs.laws.names_of_pass1_agree.Goals as goal

pub returns : goal.returns
returns c = names_agree
