use Rattle.std.proofs.Common.{◌≡◌, map, length}
use Rattle.hll_meaning.specs.Declarations.{names}
use Rattle.trace_text.specs.Faults.{Stand}
use Rattle.cell_columns.specs.Columns.{cell_of}
use Rattle.trace_text.proofs.reading.cells_at.Given as goal

abbrev pub invariant-loop-column : goal.invariant-loop-column
invariant-loop-column l = Stand (names l.checked) (map cell_of l.columns) l.values.items l.text l.rest × (length l.values.items ≡ l.column-index)
