use Rattle.hll_expressions.proofs.FormLemmas.{whole_number_fits}
use Rattle.hll_expressions.proofs.judging.whole_number.Goals as goal

pub returns-in-Some : goal.returns-in-Some
returns-in-Some c = whole_number_fits c.args.at c.args.range c.in-Some.range c.args.number c.in-Some.is
