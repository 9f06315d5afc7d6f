use Rattle.hll_grammar.proofs.Taking.{expected_word}
use Rattle.hll_grammar.proofs.cursor.Cursor.expect_word.Goals as goal

pub returns-clause-reads : goal.returns-clause-reads
returns-clause-reads c = λ room.
    expected_word c.args.word c.args.self.now.text c.take.new.self.text room c.args.self.now.rest c.take.new.self.rest c.take.result c.unexpected.result c.ok_or.result
    c.take.ensures.taken c.take.ensures.text c.unexpected.ensures c.ok_or.ensures.value
