use Rattle.cell_layout.proofs.FewCells.{cells_are_few}
use Rattle.cell_layout.proofs.laws.cells_are_few.Goals as goal

pub returns : goal.returns
returns c = cells_are_few
