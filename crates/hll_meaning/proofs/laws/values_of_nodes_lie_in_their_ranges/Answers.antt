use Rattle.hll_meaning.proofs.TextNodes.{node_values, range_values}
use Rattle.hll_meaning.proofs.laws.values_of_nodes_lie_in_their_ranges.Goals as goal

pub returns : goal.returns
returns c = record { values = node_values; ranges = range_values }
