use Rattle.expand_api.proofs.ReadingLemmas.{reads_rows, reads_signed}
use Rattle.expand_api.proofs.digits.readings.reading.Goals as goal

pub returns : goal.returns
returns c = record { rows = reads_rows; signed_index = reads_signed }
