use Rattle.evidence.proofs.ReadNumbers.{after_reads}
use Rattle.evidence.proofs.reader_fields.after.Goals as goal

pub returns : goal.returns
returns c = after_reads (λ r. r.now) c.args.bytes.now c.args.text.now c.strip_prefix.result c.strip_prefix.ensures.cases
