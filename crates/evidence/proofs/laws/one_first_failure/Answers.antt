use Rattle.evidence.proofs.Failing.{one_first}
use Rattle.evidence.proofs.laws.one_first_failure.Goals as goal

pub returns : goal.returns
returns c = one_first
