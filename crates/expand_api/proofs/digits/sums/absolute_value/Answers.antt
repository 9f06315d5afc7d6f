use Rattle.expand_api.proofs.DifferenceLemmas.{takes_absolute}
use Rattle.expand_api.proofs.digits.sums.absolute_value.Goals as goal

pub returns : goal.returns
returns c = takes_absolute
