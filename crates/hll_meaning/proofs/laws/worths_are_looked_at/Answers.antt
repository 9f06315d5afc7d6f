use Rattle.hll_meaning.proofs.LookedWorth.{looked_worth}
use Rattle.hll_meaning.proofs.laws.worths_are_looked_at.Goals as goal

pub returns : goal.returns
returns c = looked_worth
