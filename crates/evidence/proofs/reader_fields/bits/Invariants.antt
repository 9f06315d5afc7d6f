use Rattle.std.proofs.Common.{◌≡◌, take, map}
use Rattle.evidence.specs.Spelling.{bit}
use Rattle.evidence.proofs.reader_fields.bits.Given as goal

abbrev pub invariant-loop-byte : goal.invariant-loop-byte
invariant-loop-byte l = map bit l.values ≡ take l.byte-index l.text
