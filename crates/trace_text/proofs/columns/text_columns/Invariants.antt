use Rattle.std.proofs.Common.{◌≡◌, map, take}
use Rattle.std.specs.List.{flat_map}
use Rattle.cell_columns.specs.Columns.{all_columns, cell_of}
use Rattle.trace_text.proofs.columns.text_columns.Given as goal

abbrev pub invariant-loop-variable : goal.invariant-loop-variable
invariant-loop-variable l = map cell_of l.columns.items ≡ flat_map all_columns (take l.variable-index l.variables)
