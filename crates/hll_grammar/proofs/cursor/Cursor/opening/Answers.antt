use Rattle.hll_grammar.proofs.Taking.{expected, expected_word, opening_answer, if_answer}
use Rattle.hll_grammar.proofs.cursor.Cursor.opening.Goals as goal

pub returns-clause-reads : goal.returns-clause-reads
returns-clause-reads c = opening_answer c.args.mark c.args.room c.args.self.now c.open.new.self.rest c.open.result c.open.ensures.opened
