use Rattle.dependence.proofs.CellOrders.{texts_have_orders}
use Rattle.dependence.proofs.laws.causal_texts_have_orders.Goals as goal

pub returns : goal.returns
returns c = texts_have_orders
