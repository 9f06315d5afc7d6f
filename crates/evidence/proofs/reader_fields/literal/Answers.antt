use Rattle.evidence.proofs.ReadFields.{signed_fails}
use Rattle.evidence.proofs.reader_fields.literal.Goals as goal

pub returns-in_err-n : goal.returns-in_err-n
returns-in_err-n c = rw c.from_residual.ensures (signed_fails c.args.text.now c.in-Some.rest.now c.in-Some.ensures.1 c.in_err-n.ensures)
