use Rattle.std.proofs.Common.{◌≡◌, map, drop}
use Rattle.hll_meaning.specs.Judging.{field_at}
use Rattle.hll_meaning.specs.Types.{fields_of}
use Rattle.hll_meaning.proofs.KindForms.{field_kind}
use Rattle.hll_expressions.proofs.paths.field.Given as goal

abbrev pub invariant-loop-field : goal.invariant-loop-field
invariant-loop-field l =
    field_at (fields_of (map field_kind l.fields)) l.name.text ≡ field_at (fields_of (map field_kind (drop l.field-index l.fields))) l.name.text
