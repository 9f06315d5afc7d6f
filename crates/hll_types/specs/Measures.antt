-- Words for the contracts of private parts: cells and levels, as far as a number of 64 digits holds them.
use Rattle.std.specs.Prelude.{ℕ, ◌-◌, ◌^◌, List, length, map, min}
use Rattle.hll_meaning.specs.declared.ty.FieldTy.{FieldTy}
use Rattle.hll_meaning.specs.Kinds.{Kind, Fields, cells, field_ranges, levels, field_levels}
use Rattle.hll_meaning.specs.Types.{fields_of, kind_of}
use Rattle.hll_types.specs.declared.measure.Measure.{Measure}

-- a number, or the greatest one where it is greater
abbrev pub capped : ℕ → ℕ
capped n = min n (2 ^ 64 - 1)

-- the measure of so many cells and levels
abbrev pub measured : ℕ → ℕ → Measure
measured cells levels = record { cells = capped cells; levels = capped levels }

-- the measure of a kind
abbrev pub kind_measure : Kind → Measure
kind_measure k = measured (cells k) (levels k)

-- the fields of a struct by their names and kinds
abbrev pub field_kinds_of : List FieldTy → Fields
field_kinds_of fields = fields_of (map (λ f. (f.name, kind_of f.ty)) fields)

-- the measure of fields together, without the level of their struct
abbrev pub fields_measure : Fields → Measure
fields_measure fields = measured (length (field_ranges fields)) (field_levels fields)
