use Rattle.hll_meaning.proofs.Indices.{picked_bound}
use Rattle.hll_meaning.proofs.laws.indices_lie_in_their_ranges.Goals as goal

pub returns : goal.returns
returns c = picked_bound
