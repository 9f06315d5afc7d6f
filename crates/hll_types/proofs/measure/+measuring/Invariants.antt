use Rattle.std.proofs.Common.{◌≡◌, take}
use Rattle.hll_types.specs.Measures.{field_kinds_of, fields_measure}
use Rattle.hll_types.proofs.measure.+measuring.Given as goal

abbrev pub invariant-measure_fields-loop-field : goal.invariant-measure_fields-loop-field
invariant-measure_fields-loop-field l = l.all ≡ fields_measure (field_kinds_of (take l.field-index l.fields))
