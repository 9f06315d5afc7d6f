use Rattle.evidence.proofs.Failing.{never_fails}
use Rattle.evidence.proofs.laws.accepted_fails_nowhere.Goals as goal

pub returns : goal.returns
returns c = never_fails
