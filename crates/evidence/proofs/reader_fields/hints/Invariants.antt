use Rattle.std.proofs.Common.{◌^◌, ◌<◌, length}
use Rattle.std.specs.Prelude.{decimal}
use Rattle.evidence.proofs.ReadFields.{HasRead}
use Rattle.evidence.proofs.reader_fields.hints.Given as goal

abbrev pub invariant-loop-rest : goal.invariant-loop-rest
invariant-loop-rest l = HasRead (λ h. h < 2 ^ 32) decimal l.text l.hints.items l.rest

abbrev pub decreases-loop-rest : goal.decreases-loop-rest
decreases-loop-rest l = length l.rest
