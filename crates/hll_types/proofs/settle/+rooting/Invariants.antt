use Rattle.std.proofs.Common.{◌≡◌, take}
use Rattle.hll_types.specs.Measures.{field_kinds_of}
use Rattle.hll_types.specs.Settling.{fields_in, root_in}
use Rattle.hll_types.proofs.settle.+rooting.Given as goal

abbrev pub invariant-rooted_fields-loop-field : goal.invariant-rooted_fields-loop-field
invariant-rooted_fields-loop-field l = field_kinds_of l.all ≡ fields_in (root_in l.sorts l.roots) (field_kinds_of (take l.field-index l.fields))
