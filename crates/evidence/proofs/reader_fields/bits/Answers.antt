use Rattle.evidence.proofs.ReadBits.{no_bit}
use Rattle.evidence.proofs.reader_fields.bits.Goals as goal

pub returns-in-None : goal.returns-in-None
returns-in-None c = λ vs count e. no_bit c.args.text.now c.loop-byte.byte-index c.loop-byte-test.true c.in-None.ensures vs e
