use Rattle.hll_grammar.proofs.reading.NameRead.read.Goals as goal

pub returns-clause-reads : goal.returns-clause-reads
returns-clause-reads c = c.name.ensures.reads 200
