use Rattle.dependence.proofs.GivenNumbers.{runs_by_cells}
use Rattle.dependence.proofs.laws.runs_go_by_cells.Goals as goal

pub returns : goal.returns
returns c = runs_by_cells
