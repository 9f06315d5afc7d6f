use Rattle.hll_grammar.proofs.Taking.{mark_seen}
use Rattle.hll_grammar.proofs.cursor.Cursor.sees.Goals as goal

pub returns : goal.returns
returns c = mark_seen c.args.mark c.args.self.now.rest c.is_next.result c.is_next.ensures
