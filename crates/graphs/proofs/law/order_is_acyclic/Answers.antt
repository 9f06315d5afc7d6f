use Rattle.graphs.proofs.OrderLemmas.{order_acyclic}
use Rattle.graphs.proofs.law.order_is_acyclic.Goals as goal

pub returns : goal.returns
returns g c = order_acyclic g.R.Relation.arrow
