use Rattle.std.proofs.Common.{◌≡◌, length, take}
use Rattle.hll_meaning.specs.Kinds.{field_ranges}
use Rattle.hll_types.specs.Measures.{capped, field_kinds_of}
use Rattle.cell_layout.proofs.sizes.+counting.Given as goal

abbrev pub invariant-cells_of_fields-loop-field : goal.invariant-cells_of_fields-loop-field
invariant-cells_of_fields-loop-field l = l.count ≡ capped (length (field_ranges (field_kinds_of (take l.field-index l.fields))))
