use Rattle.graphs.proofs.CycleLemmas.{one_cycle}
use Rattle.graphs.proofs.law.one_reported_cycle.Goals as goal

pub returns : goal.returns
returns g c = one_cycle g.R.Relation.arrow
