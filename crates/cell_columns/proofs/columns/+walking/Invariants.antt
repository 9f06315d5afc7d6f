use Rattle.std.proofs.Common.{◌≡◌, ◌++◌, map, take}
use Rattle.hll_meaning.specs.Cells.{field_cells, named_cells}
use Rattle.hll_meaning.specs.Kinds.{array}
use Rattle.hll_meaning.specs.Types.{kind_of}
use Rattle.cell_columns.specs.Columns.{cell_of, fields_kinds}
use Rattle.cell_columns.proofs.columns.+walking.Given as goal

abbrev pub invariant-push_elements-loop-place : goal.invariant-push_elements-loop-place
invariant-push_elements-loop-place l = map cell_of l.columns.items ≡ map cell_of l.initial.columns.items ++ named_cells l.name (array l.place (kind_of l.each))

abbrev pub invariant-push_fields-loop-field : goal.invariant-push_fields-loop-field
invariant-push_fields-loop-field l = map cell_of l.columns.items ≡ map cell_of l.initial.columns.items ++ field_cells l.name (fields_kinds (take l.field-index l.fields))
