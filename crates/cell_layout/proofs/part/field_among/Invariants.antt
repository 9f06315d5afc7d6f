use Rattle.std.proofs.Common.{◌≡◌, ◌^◌, ◌<◌, drop, option_map}
use Rattle.hll_types.specs.Measures.{field_kinds_of}
use Rattle.cell_layout.specs.Parts.{held}
use Rattle.cell_layout.specs.Steps.{field_from}
use Rattle.cell_layout.proofs.part.field_among.Given as goal

abbrev pub invariant-loop-field : goal.invariant-loop-field
invariant-loop-field l = record {
  small : l.next < 2 ^ 64;
  same : option_map held (field_from l.next (field_kinds_of (drop l.field-index l.fields)) l.name) ≡ option_map held (field_from l.start (field_kinds_of l.fields) l.name);
}
