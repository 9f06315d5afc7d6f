use Rattle.std.proofs.Common.{◌≡◌, ◌++◌, map}
use Rattle.std.specs.Iterator.Adapters.{zip_first, zip_second}
use Rattle.std.specs.Slice.Iter.{iter_rest}
use Rattle.hll_meaning.specs.Declarations.{names}
use Rattle.cell_columns.specs.Columns.{cell_of}
use Rattle.trace_text.specs.Traces.{cells_text, AreValues}
use Rattle.trace_text.proofs.writing.push_cells.Given as goal

abbrev pub invariant-loop-column : goal.invariant-loop-column
invariant-loop-column l =
    (l.out.items ++ cells_text (names l.checked) (map cell_of (iter_rest (zip_first l.column-iterator))) (iter_rest (zip_second l.column-iterator))
    ≡ l.initial.out.items ++ cells_text (names l.checked) (map cell_of l.columns) l.values)
    × AreValues (map cell_of (iter_rest (zip_first l.column-iterator))) (iter_rest (zip_second l.column-iterator))
