use Rattle.expand_api.proofs.ComparisonLemmas.{compares_naturals, compares_signed}
use Rattle.expand_api.proofs.digits.comparisons.comparison.Goals as goal

pub returns : goal.returns
returns c = record { naturals = compares_naturals; signed_ones = compares_signed }
