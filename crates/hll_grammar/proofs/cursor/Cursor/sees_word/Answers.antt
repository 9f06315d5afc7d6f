use Rattle.hll_grammar.proofs.Taking.{word_seen}
use Rattle.hll_grammar.proofs.cursor.Cursor.sees_word.Goals as goal

pub returns : goal.returns
returns c = word_seen c.args.word c.args.self.now.rest c.is_next.result c.is_next.ensures
