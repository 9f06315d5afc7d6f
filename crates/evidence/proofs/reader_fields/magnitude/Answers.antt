use Rattle.evidence.proofs.ReadFields.{zero_fails}
use Rattle.evidence.proofs.reader_fields.magnitude.Goals as goal

pub returns-then-n-eq0 : goal.returns-then-n-eq0
returns-then-n-eq0 c = zero_fails c.args.text.now c.in_ok-n.n c.in_ok-n.rest.now c.if-n-eq0.true c.in_ok-n.ensures
