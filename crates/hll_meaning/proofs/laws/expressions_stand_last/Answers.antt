use Rattle.hll_meaning.proofs.NodeForms.{nodes_end}
use Rattle.hll_meaning.proofs.laws.expressions_stand_last.Goals as goal

pub returns : goal.returns
returns c = nodes_end
