use Rattle.expand_api.proofs.ComparisonLemmas.{tests_equality}
use Rattle.expand_api.proofs.digits.comparisons.equality.Goals as goal

pub returns : goal.returns
returns c = tests_equality
