use Rattle.evidence.proofs.Meant.{is_meant}
use Rattle.evidence.proofs.laws.accepted_is_meant.Goals as goal

pub returns : goal.returns
returns c = is_meant
