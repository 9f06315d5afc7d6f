use Rattle.std.proofs.Common.{◌≡◌, take}
use Rattle.hll_types.specs.Measures.{capped}
use Rattle.trace_text.proofs.InputCells.{fields_count}
use Rattle.trace_text.proofs.size.+counting.Given as goal

abbrev pub invariant-cells_of_fields-loop-field : goal.invariant-cells_of_fields-loop-field
invariant-cells_of_fields-loop-field l = l.count ≡ capped (fields_count (take l.field-index l.fields))
