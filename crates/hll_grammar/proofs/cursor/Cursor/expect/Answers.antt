use Rattle.hll_grammar.proofs.Taking.{expected}
use Rattle.hll_grammar.proofs.cursor.Cursor.expect.Goals as goal

pub returns-clause-reads : goal.returns-clause-reads
returns-clause-reads c = λ room.
    expected c.args.mark c.args.self.now.text c.take.new.self.text room c.args.self.now.rest c.take.new.self.rest c.take.result c.unexpected.result c.ok_or.result
    c.take.ensures.taken c.take.ensures.text c.unexpected.ensures c.ok_or.ensures.value
