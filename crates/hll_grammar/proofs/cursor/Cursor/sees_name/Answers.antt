use Rattle.hll_grammar.proofs.Taking.{name_seen}
use Rattle.hll_grammar.proofs.cursor.Cursor.sees_name.Goals as goal

pub returns : goal.returns
returns c = name_seen c.args.self.now.rest c.is_next.result c.is_next.ensures
