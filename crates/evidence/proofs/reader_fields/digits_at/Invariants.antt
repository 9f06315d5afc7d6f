use Rattle.evidence.proofs.ReadNumbers.{Counted}
use Rattle.evidence.proofs.reader_fields.digits_at.Given as goal

abbrev pub invariant-loop-count : goal.invariant-loop-count
invariant-loop-count l = Counted l.text l.value l.count
