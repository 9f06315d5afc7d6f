use Rattle.std.proofs.Common.{◌≡◌, take}
use Rattle.hll_meaning.proofs.ty.+copying.Given as goal

abbrev pub invariant-copy_fields-loop-field : goal.invariant-copy_fields-loop-field
invariant-copy_fields-loop-field l = l.copies ≡ take l.field-index l.fields
