use Rattle.expand_api.proofs.DifferenceLemmas.{negates}
use Rattle.expand_api.proofs.digits.sums.negation.Goals as goal

pub returns : goal.returns
returns c = negates
