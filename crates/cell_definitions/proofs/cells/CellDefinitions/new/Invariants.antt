use Rattle.std.proofs.Common.{◌≡◌, map, take}
use Rattle.hll_meaning.specs.Cells.{cells_of_all}
use Rattle.hll_meaning.specs.Runs.{definitions}
use Rattle.cell_columns.specs.Columns.{cell_of}
use Rattle.cell_definitions.specs.Parts.{owned_of, owned_from}
use Rattle.cell_definitions.proofs.OwnedCells.{kind_pair}
use Rattle.cell_definitions.proofs.cells.CellDefinitions.new.Given as goal

abbrev pub invariant-loop-index : goal.invariant-loop-index
invariant-loop-index l = record {
  columns : map cell_of l.columns.items ≡ cells_of_all (map kind_pair (take l.index l.variable-items));
  owners : map owned_of l.owners.items ≡ owned_from (definitions l.checked) 0 (map kind_pair (take l.index l.variable-items));
}
