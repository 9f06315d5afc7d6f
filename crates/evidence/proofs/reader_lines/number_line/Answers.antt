use Rattle.std.proofs.Common.{◌≤◌}
use Rattle.lll_text.specs.Spelling.{number_field}
use Rattle.evidence.proofs.ReadLines.{after_word}
use Rattle.evidence.proofs.reader_lines.number_line.Goals as goal

pub returns : goal.returns
returns c =
    after_word (λ n. (c.args.least ≤ n) × (n ≤ c.args.most)) number_field c.args.word.now c.args.text.now c.in_ok-rest.rest.now c.number_in.result
    c.in_ok-rest.ensures.1 c.number_in.ensures
