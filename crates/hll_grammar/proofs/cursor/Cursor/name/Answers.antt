use Rattle.hll_grammar.proofs.Taking.{name_answer, no_name_answer}
use Rattle.hll_grammar.proofs.cursor.Cursor.name.Goals as goal

pub returns-in_default-clause-reads : goal.returns-in_default-clause-reads
returns-in_default-clause-reads c = λ room.
    no_name_answer c.args.self.now.text c.take.new.self.text room c.args.self.now.rest c.take.new.self.rest c.unexpected.result c.in_default.ensures.taken c.take.ensures.text c.unexpected.ensures

pub returns-clause-reads : goal.returns-clause-reads
returns-clause-reads c = λ room.
    name_answer c.args.self.now.text c.take.new.self.text room c.args.self.now.rest c.take.new.self.rest c.in-Some.token c.name_of.result c.in-Some.ensures.taken c.take.ensures.text
    c.name_of.ensures.name c.name_of.ensures.memory
