use Rattle.graphs.proofs.CycleLemmas.{cycle_cyclic}
use Rattle.graphs.proofs.law.cycle_is_cyclic.Goals as goal

pub returns : goal.returns
returns g c = cycle_cyclic g.R.Relation.arrow
