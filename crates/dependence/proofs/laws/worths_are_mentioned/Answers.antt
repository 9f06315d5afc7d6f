use Rattle.dependence.proofs.MentionedWorth.{mentioned_worth}
use Rattle.dependence.proofs.laws.worths_are_mentioned.Goals as goal

pub returns : goal.returns
returns c = mentioned_worth
