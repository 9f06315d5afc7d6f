use Rattle.graphs.proofs.OrderLemmas.{same_orders}
use Rattle.graphs.proofs.CycleLemmas.{same_cycles}
use Rattle.graphs.proofs.law.same_arrows_same_answers.Goals as goal

pub returns-clause-orders : goal.returns-clause-orders
returns-clause-orders g c = λ n order same. same_orders g.R.Relation.arrow g.S.Relation.arrow n same order

pub returns-clause-cycles : goal.returns-clause-cycles
returns-clause-cycles g c = λ n cells stays same. same_cycles g.R.Relation.arrow g.S.Relation.arrow n stays same cells
