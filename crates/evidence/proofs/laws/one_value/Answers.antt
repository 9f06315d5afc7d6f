use Rattle.evidence.proofs.OneValue.{one_value}
use Rattle.evidence.proofs.laws.one_value.Goals as goal

pub returns : goal.returns
returns c = one_value
