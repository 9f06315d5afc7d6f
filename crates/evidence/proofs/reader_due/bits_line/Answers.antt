use Rattle.std.proofs.Common.{◌≡◌, Bool, List, length, map}
use Rattle.evidence.specs.Spelling.{bit}
use Rattle.evidence.proofs.ReadLines.{after_word_ok}
use Rattle.evidence.proofs.reader_due.bits_line.Goals as goal

pub returns-in-Some : goal.returns-in-Some
returns-in-Some c =
    after_word_ok (λ (values : List Bool). length values ≡ c.args.count) (map bit) c.args.word.now c.args.text.now c.in-Some.rest.now c.bits.result c.in-Some.ensures.1 c.bits.ensures
