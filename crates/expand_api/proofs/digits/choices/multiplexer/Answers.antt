use Rattle.expand_api.proofs.ChoiceLemmas.{chooses}
use Rattle.expand_api.proofs.digits.choices.multiplexer.Goals as goal

pub returns : goal.returns
returns c = chooses
