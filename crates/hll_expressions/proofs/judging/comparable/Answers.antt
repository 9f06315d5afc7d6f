use Rattle.hll_expressions.proofs.FormLemmas.{comparable_alike, comparable_whole}
use Rattle.hll_expressions.proofs.judging.comparable.Goals as goal

pub returns-in-Eq : goal.returns-in-Eq
returns-in-Eq c = comparable_alike c.args.cmp c.args.left.now c.args.right.now c.alike.result c.in-Eq.is c.alike.ensures

pub returns-in-Lt : goal.returns-in-Lt
returns-in-Lt c = comparable_whole c.args.cmp c.args.left.now c.args.right.now c.both_whole.result c.in-Lt.is c.both_whole.ensures
