use Rattle.cell_layout.proofs.PartsInRows.{reached_cells_are_few}
use Rattle.cell_layout.proofs.laws.reached_cells_are_few.Goals as goal

pub returns : goal.returns
returns c = reached_cells_are_few
