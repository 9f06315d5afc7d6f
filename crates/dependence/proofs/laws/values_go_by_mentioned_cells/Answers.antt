use Rattle.dependence.proofs.GivenNumbers.{values_go}
use Rattle.dependence.proofs.laws.values_go_by_mentioned_cells.Goals as goal

pub returns : goal.returns
returns c = values_go
