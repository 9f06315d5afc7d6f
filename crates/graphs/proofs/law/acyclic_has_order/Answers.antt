use Rattle.graphs.proofs.Existence.{acyclic_ordered}
use Rattle.graphs.proofs.law.acyclic_has_order.Goals as goal

pub returns : goal.returns
returns g c = λ n row stays rows acyclic. acyclic_ordered g.R.Relation.arrow n row rows stays acyclic
