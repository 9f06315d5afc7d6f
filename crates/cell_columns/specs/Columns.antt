-- The cell that a column is, and the cells of a variable.
use Rattle.std.specs.Prelude.{List, map}
use Rattle.hll_tree.specs.Printing.{name_text}
use Rattle.hll_meaning.specs.declared.ty.FieldTy.{FieldTy}
use Rattle.hll_meaning.specs.Kinds.{Kind, truth, whole, element, Fields}
use Rattle.hll_meaning.specs.Types.{ends, fields_of, kind_of}
use Rattle.hll_meaning.specs.Cells.{Cell, named_cells}
use Rattle.hll_types.specs.declared.variables.Variable.{Variable}
use Rattle.cell_columns.specs.declared.columns.Column.{Column}
use Rattle.cell_columns.specs.declared.columns.Values.{Values}
use Rattle.cell_columns.specs.declared.columns.Values.TheVariants as values

-- the kind of these values
abbrev pub kind_of_values : Values → Kind
kind_of_values values.Truth = truth
kind_of_values (values.Whole i) = whole (ends i)
kind_of_values (values.Elements root i) = element root (ends i)

-- the cell of a column
abbrev pub cell_of : Column → Cell
cell_of c = record { name = c.name; kind = kind_of_values c.values }

-- the fields of a struct by their names and kinds
abbrev pub fields_kinds : List FieldTy → Fields
fields_kinds fields = fields_of (map (λ f. (f.name, kind_of f.ty)) fields)

-- the cells of a variable
abbrev pub all_columns : Variable → List Cell
all_columns v = named_cells (name_text v.name) (kind_of v.ty)
