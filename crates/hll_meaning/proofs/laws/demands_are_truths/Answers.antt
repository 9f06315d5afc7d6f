use Rattle.hll_meaning.proofs.WellTexts.{demands_truths, demands_values}
use Rattle.hll_meaning.proofs.laws.demands_are_truths.Goals as goal

pub returns : goal.returns
returns c = record { are = demands_truths; have = demands_values }
