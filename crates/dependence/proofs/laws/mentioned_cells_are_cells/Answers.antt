use Rattle.dependence.proofs.MentionedCells.{mentioned_cells}
use Rattle.dependence.proofs.laws.mentioned_cells_are_cells.Goals as goal

pub returns : goal.returns
returns c = mentioned_cells
