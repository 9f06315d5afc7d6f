use Rattle.hll_meaning.proofs.WellTexts.{value_lies}
use Rattle.hll_meaning.proofs.laws.values_of_texts_lie_in_their_ranges.Goals as goal

pub returns : goal.returns
returns c = value_lies
