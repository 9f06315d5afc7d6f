use Rattle.hll_expressions.proofs.TallyLemmas.{tallied_is, not_tallied}
use Rattle.hll_expressions.proofs.operators.number_of_chain.Goals as goal

pub returns-in-Some : goal.returns-in-Some
returns-in-Some c = λ v ws h. c.total.ensures v ws (tallied_is c.args.tally c.in-Some.tally v ws c.in-Some.is h)

pub returns-in-None : goal.returns-in-None
returns-in-None c = λ v ws h. absurd (not_tallied c.args.tally v ws c.in-None.is h)
