use Rattle.std.proofs.Common.{◌∷◌, length}
use Rattle.std.specs.Fmt.{signed_decimal}
use Rattle.evidence.specs.Counts.{IsLiteralNumber}
use Rattle.evidence.proofs.ReadFields.{HasRead}
use Rattle.evidence.proofs.reader_fields.literals.Given as goal

abbrev pub invariant-loop-rest : goal.invariant-loop-rest
invariant-loop-rest l = HasRead IsLiteralNumber signed_decimal (32 ∷ l.text) l.literals.items l.rest

abbrev pub decreases-loop-rest : goal.decreases-loop-rest
decreases-loop-rest l = length l.rest
