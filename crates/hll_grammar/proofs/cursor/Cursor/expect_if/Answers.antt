use Rattle.hll_grammar.proofs.Taking.{expected, expected_word, opening_answer, if_answer}
use Rattle.hll_grammar.proofs.cursor.Cursor.expect_if.Goals as goal

pub returns-clause-reads : goal.returns-clause-reads
returns-clause-reads c = if_answer c.args.room c.args.self.now c.open.new.self.rest c.open.result c.open.ensures.opened
