use Rattle.evidence.proofs.Proved.{is_shortest}
use Rattle.evidence.proofs.laws.breaks_are_shortest.Goals as goal

pub returns : goal.returns
returns c = is_shortest
