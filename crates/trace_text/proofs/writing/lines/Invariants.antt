use Rattle.std.proofs.Common.{◌≡◌, ◌++◌, drop, map}
use Rattle.hll_meaning.specs.Declarations.{names}
use Rattle.cell_columns.specs.Columns.{cell_of}
use Rattle.trace_text.specs.Traces.{lines_text, numbers_of}
use Rattle.trace_text.proofs.writing.lines.Given as goal

abbrev pub invariant-loop-instant : goal.invariant-loop-instant
invariant-loop-instant l =
    l.out.items ++ lines_text (names l.checked) (map cell_of l.columns) l.instant (drop l.instant (numbers_of l.rows))
    ≡ lines_text (names l.checked) (map cell_of l.columns) 0 (numbers_of l.rows)
