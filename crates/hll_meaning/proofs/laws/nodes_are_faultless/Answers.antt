use Rattle.hll_meaning.proofs.TextNodes.{nodes_faultless}
use Rattle.hll_meaning.proofs.laws.nodes_are_faultless.Goals as goal

pub returns : goal.returns
returns c = nodes_faultless
