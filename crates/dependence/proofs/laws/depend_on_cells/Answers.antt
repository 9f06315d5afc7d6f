use Rattle.dependence.proofs.DependedCells.{depend_on_cells}
use Rattle.dependence.proofs.laws.depend_on_cells.Goals as goal

pub returns : goal.returns
returns c = depend_on_cells
